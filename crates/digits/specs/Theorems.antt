-- What is proved of the definitions, for contracts to name.
use Rattle.std.specs.Prelude.{◌≡◌, ℕ, ◌*◌, ◌%◌, ◌^◌, ◌<◌, ◌≤◌, Bool, true, false, ◌⊎◌, ◌↔◌, List, [], ◌∷◌, codes, decimal, ◌≢◌, from_bits, to_bits, Float}
use Rattle.std.specs.Float.{nan, inf, binary32}
use Rattle.std.specs.Float.Ieee.{fits}
use Rattle.std.specs.Float.Ieee.Scale.{finite}
use Rattle.std.specs.List.{AllByRecursion}
use Rattle.digits.specs.Decimals.{nearest_float, minus, units, places, reads, Plain, NumberByte}
use Rattle.digits.specs.Magnitudes.{grains, bare_domain, rounded_domain}
use Rattle.digits.specs.Bare.{away, bare, Shows}
use Rattle.digits.specs.Rounded.{rounded, Close}

-- the domains over whole numbers: finite, at most 2 ^ 40, and for a bare number zero or at least 11258999 * 2 ^ -50, the f32 nearest to 10 ^ -8
abbrev pub Sized : Float → Type 0
Sized x = (finite x ≡ true) × (grains x ≤ 2 ^ 40 * 2 ^ 149)

abbrev pub DomainStands : Type 0
DomainStands = (x : Float) → fits binary32 x ≡ true
    → (rounded_domain x ≡ true ↔ Sized x) × (bare_domain x ≡ true ↔ (Sized x × ((grains x ≡ 0) ⊎ (11258999 * 2 ^ 99 ≤ grains x))))

-- what a decimal reads as is a nearest float: no float is nearer, and where another one is as near, the last binary digit read is even
abbrev pub ReadingStands : Type 0
ReadingStands = (s : Bool) (n k : ℕ) (y : Float) → finite (nearest_float s n k) ≡ true → fits binary32 y ≡ true → finite y ≡ true
    → (away (nearest_float s n k) n k ≤ away y n k)
    × (away (nearest_float s n k) n k ≡ away y n k → (grains (nearest_float s n k) ≢ grains y) → to_bits binary32 (nearest_float s n k) % 2 ≡ 0)

-- the bare text is the shortest, nearest, larger one, and no other text is
abbrev pub BareStands : Type 0
BareStands = (x : Float) → fits binary32 x ≡ true → bare_domain x ≡ true → Shows x (bare x) × ((bs : List ℕ) → Shows x bs → bs ≡ bare x)

-- the text is plain, has at most p decimals, and reads as a float close to x
pub record RoundedWell (p : ℕ) (x : Float) (bs : List ℕ) : Type 0 where
  pub plain : Plain bs
  pub decimals : places bs ≤ p
  pub close : Close p x (reads bs)

abbrev pub RoundedStands : Type 0
RoundedStands = (x : Float) (p : ℕ) → fits binary32 x ≡ true → rounded_domain x ≡ true → p ≤ 8 → RoundedWell p x (rounded p x)

-- the text says the whole number n
pub record SaysWhole (n : ℕ) (bs : List ℕ) : Type 0 where
  pub plain : Plain bs
  pub sign_is : minus bs ≡ false
  pub units_are : units bs ≡ n
  pub places_are : places bs ≡ 0

-- the text of a whole number says it, and no other text does
abbrev pub WholeStands : Type 0
WholeStands = (n : ℕ) → n < 2 ^ 64 → SaysWhole n (decimal n) × ((bs : List ℕ) → SaysWhole n bs → bs ≡ decimal n)

-- a plain text has only the bytes of numbers, so none that markup has to escape
abbrev pub PlainStands : Type 0
PlainStands = (bs : List ℕ) → Plain bs → AllByRecursion NumberByte bs

-- ---- known texts, each beside the number that it shows

abbrev pub known_rounded : List (List ℕ)
known_rounded =
    rounded 1 (reads (codes "0.25"))
    ∷ rounded 0 (reads (codes "-1.5"))
    ∷ rounded 0 (reads (codes "-0.25"))
    ∷ rounded 0 (reads (codes "-0.0"))
    ∷ rounded 8 (reads (codes "3000000000"))
    ∷ []

abbrev pub known_bare : List (List ℕ)
known_bare =
    bare (reads (codes "0.1"))
    ∷ bare (reads (codes "2147483648"))
    ∷ bare (reads (codes "2097152.25"))
    ∷ bare (reads (codes "-0"))
    ∷ []

-- zero, the smallest bare number and the one below it, 2 ^ 40 and the next one, an infinity, and what is no number
abbrev pub known_domain : (Float → Bool) → List Bool
known_domain test =
    test (from_bits binary32 0)
    ∷ test (from_bits binary32 0x322BCC77)
    ∷ test (from_bits binary32 0x322BCC76)
    ∷ test (reads (codes "-1099511627776"))
    ∷ test (from_bits binary32 0xD3800001)
    ∷ test (inf true)
    ∷ test nan
    ∷ []

abbrev pub KnownTexts : Type 0
KnownTexts =
    (known_rounded ≡ codes "0.3" ∷ codes "-2" ∷ codes "-0" ∷ codes "0" ∷ codes "3000000000" ∷ [])
    × (known_bare ≡ codes "0.1" ∷ codes "2147483600" ∷ codes "2097152.3" ∷ codes "-0" ∷ [])
    × (known_domain bare_domain ≡ true ∷ true ∷ false ∷ true ∷ false ∷ false ∷ false ∷ [])
    × (known_domain rounded_domain ≡ true ∷ true ∷ true ∷ true ∷ false ∷ false ∷ false ∷ [])
