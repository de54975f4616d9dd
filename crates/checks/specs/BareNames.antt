-- Which family names go without quotes, in the words of CSS.
use Rattle.std.specs.Prelude.{◌≡◌, ℕ, true, ◌⊎◌, List, [], ◌∷◌, ◌++◌, map, codes, Decides, ◌≢◌}
use Rattle.std.specs.Char.{to_ascii_lowercase}
use Rattle.std.specs.List.{AllByRecursion}
use Rattle.checks.specs.Families.{starts_identifier, in_identifier, bare_name}

-- a byte that starts an identifier, perhaps after a hyphen, and then bytes of identifiers
pub record Identifier (bytes : List ℕ) : Type 0 where
  pub first : ℕ
  pub others : List ℕ
  pub starts : starts_identifier first ≡ true
  pub goes_on : AllByRecursion (λ b. in_identifier b ≡ true) others
  pub spelled : (bytes ≡ first ∷ others) ⊎ (bytes ≡ 45 ∷ (first ∷ others))

-- words with one space between each two
abbrev pub spaced : List ℕ → List (List ℕ) → List ℕ
spaced first [] = first
spaced first (next ∷ others) = first ++ (32 ∷ spaced next others)

-- identifiers joined by single spaces
pub record Identifiers (bytes : List ℕ) : Type 0 where
  pub first : List ℕ
  pub others : List (List ℕ)
  pub first_one : Identifier first
  pub other_ones : AllByRecursion Identifier others
  pub spelled : bytes ≡ spaced first others

-- the words that mean something else in font-family: generic families, and words of CSS; written out here too, so that a slip in the
-- list of the test shows in the theorem
abbrev pub reserved : List (List ℕ)
reserved =
    codes "serif" ∷ codes "sans-serif" ∷ codes "cursive" ∷ codes "fantasy" ∷ codes "monospace"
    ∷ codes "inherit" ∷ codes "initial" ∷ codes "unset" ∷ codes "default" ∷ []

-- A name is bare exactly when it is identifiers joined by single spaces and, as a whole and in any letter case, no such word.
abbrev pub BareNamesStand : Type 0
BareNamesStand =
    (bytes : List ℕ)
    → Decides (bare_name bytes) (Identifiers bytes × AllByRecursion (λ letters. map to_ascii_lowercase bytes ≢ letters) reserved)
