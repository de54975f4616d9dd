-- The rule for a named family, and which names go without quotes.
use Rattle.std.specs.Prelude.{ℕ, Bool, true, false, cond, not, ◌&&◌, ◌||◌, List, [], ◌∷◌, map, codes, fold, Some, None, Option, ◌==◌, nat_le}
use Rattle.std.specs.List.{list_all, list_any}
use Rattle.std.specs.Char.{to_ascii_lowercase}
use Rattle.std.specs.Str.{bytes_eq}
use Rattle.checks.specs.Ids.{between}
use Rattle.checks.specs.declared.families.Spot.{Spot}
use Rattle.checks.specs.declared.families.Spot.TheVariants.{Start, Hyphen, Inside}

-- neither quote, no backslash, line feed or carriage return
abbrev pub plain_byte : ℕ → Bool
plain_byte b = not (b == 34 || (b == 39 || (b == 92 || (b == 10 || b == 13))))

abbrev pub plain_bytes : List ℕ → Bool
plain_bytes bytes = list_all plain_byte bytes

-- ---- bare names

-- a letter, an underscore, or a byte of a character that is not ASCII
abbrev pub starts_identifier : ℕ → Bool
starts_identifier b = between 65 90 b || (between 97 122 b || (b == 95 || nat_le 128 b))

-- one of these, a digit or a hyphen
abbrev pub in_identifier : ℕ → Bool
in_identifier b = between 48 57 b || (b == 45 || starts_identifier b)

-- where the byte after b stands, if b may stand there
abbrev pub next_spot : Spot → ℕ → Option Spot
next_spot Start b = cond (starts_identifier b) (Some Inside) (cond (b == 45) (Some Hyphen) None)
next_spot Hyphen b = cond (starts_identifier b) (Some Inside) None
next_spot Inside b = cond (in_identifier b) (Some Inside) (cond (b == 32) (Some Start) None)

abbrev pub one_more : Option Spot → ℕ → Option Spot
one_more None b = None
one_more (Some spot) b = next_spot spot b

unfoldable pub spot_after : List ℕ → Option Spot
spot_after bytes = fold one_more (Some Start) bytes

abbrev pub is_inside : Option Spot → Bool
is_inside None = false
is_inside (Some Start) = false
is_inside (Some Hyphen) = false
is_inside (Some Inside) = true

-- the word in any letter case
unfoldable pub word : List ℕ → List ℕ → Bool
word letters bytes = bytes_eq (map to_ascii_lowercase bytes) letters

-- the words that mean something else in font-family: generic families, and words of CSS
abbrev pub reserved : List (List ℕ)
reserved =
    codes "serif" ∷ codes "sans-serif" ∷ codes "cursive" ∷ codes "fantasy" ∷ codes "monospace"
    ∷ codes "inherit" ∷ codes "initial" ∷ codes "unset" ∷ codes "default" ∷ []

abbrev pub reserved_word : List ℕ → Bool
reserved_word bytes = list_any (λ letters. word letters bytes) reserved

abbrev pub bare_name : List ℕ → Bool
bare_name bytes = is_inside (spot_after bytes) && not (reserved_word bytes)
