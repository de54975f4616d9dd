-- Characters and names, as XML 1.0 (fifth edition) has them. A character is its number. The numbers in front are those of
-- the standard's productions.
use Rattle.std.specs.Prelude.{ℕ, Bool, false, not, ◌&&◌, ◌||◌, T, List, [], ◌∷◌, ◌++◌, ◌==◌, ◌≢◌, nat_le}

abbrev pub between : ℕ → ℕ → ℕ → Bool
between low high c = nat_le low c && nat_le c high

abbrev pub in_ranges : List (ℕ × ℕ) → ℕ → Bool
in_ranges [] c = false
in_ranges (r ∷ more) c = between r.0 r.1 c || in_ranges more c

-- [2] Char
abbrev pub char_ranges : List (ℕ × ℕ)
char_ranges = (0x9, 0x9) ∷ (0xA, 0xA) ∷ (0xD, 0xD) ∷ (0x20, 0xD7FF) ∷ (0xE000, 0xFFFD) ∷ (0x10000, 0x10FFFF) ∷ []

abbrev pub is_char : ℕ → Bool
is_char = in_ranges char_ranges

-- [3] S, one character of it
abbrev pub is_space : ℕ → Bool
is_space c = c == 0x20 || (c == 0x9 || (c == 0xD || c == 0xA))

-- [4] NameStartChar: a colon, capital letters, a low line, small letters, and the ranges above U+007F
abbrev pub name_start_ranges : List (ℕ × ℕ)
name_start_ranges =
    (0x3A, 0x3A) ∷ (0x41, 0x5A) ∷ (0x5F, 0x5F) ∷ (0x61, 0x7A)
    ∷ (0xC0, 0xD6) ∷ (0xD8, 0xF6) ∷ (0xF8, 0x2FF) ∷ (0x370, 0x37D)
    ∷ (0x37F, 0x1FFF) ∷ (0x200C, 0x200D) ∷ (0x2070, 0x218F) ∷ (0x2C00, 0x2FEF)
    ∷ (0x3001, 0xD7FF) ∷ (0xF900, 0xFDCF) ∷ (0xFDF0, 0xFFFD) ∷ (0x10000, 0xEFFFF) ∷ []

abbrev pub is_name_start : ℕ → Bool
is_name_start = in_ranges name_start_ranges

-- [4a] NameChar: those, a hyphen, a full stop, digits, a middle dot, and two more ranges
abbrev pub name_more_ranges : List (ℕ × ℕ)
name_more_ranges = (0x2D, 0x2D) ∷ (0x2E, 0x2E) ∷ (0x30, 0x39) ∷ (0xB7, 0xB7) ∷ (0x300, 0x36F) ∷ (0x203F, 0x2040) ∷ []

abbrev pub is_name_char : ℕ → Bool
is_name_char c = is_name_start c || in_ranges name_more_ranges c

-- [0-9] and [0-9a-fA-F]
abbrev pub is_digit : ℕ → Bool
is_digit = between 0x30 0x39

abbrev pub is_hex_digit : ℕ → Bool
is_hex_digit = in_ranges ((0x30, 0x39) ∷ (0x41, 0x46) ∷ (0x61, 0x66) ∷ [])

-- [^<&]: a character, but neither < nor &
abbrev pub is_data : ℕ → Bool
is_data c = is_char c && (not (c == 0x3C) && not (c == 0x26))

-- [^<&"] and [^<&']: nor the quote
abbrev pub is_data_but : ℕ → ℕ → Bool
is_data_but quote c = is_data c && not (c == quote)

-- X* and X+ for a class X of characters
abbrev pub ZeroOrMore : (ℕ → Bool) → List ℕ → Type 0
ZeroOrMore class [] = Unit {0}
ZeroOrMore class (c ∷ cs) = T (class c) × ZeroOrMore class cs

abbrev pub OneOrMore : (ℕ → Bool) → List ℕ → Type 0
OneOrMore class [] = ⊥
OneOrMore class (c ∷ cs) = T (class c) × ZeroOrMore class cs

-- [5] Name
abbrev pub Name : List ℕ → Type 0
Name [] = ⊥
Name (c ∷ cs) = T (is_name_start c) × ZeroOrMore is_name_char cs

-- a text stands nowhere inside another
abbrev pub Without : List ℕ → List ℕ → Type 0
Without text whole = (before behind : List ℕ) → whole ≢ before ++ (text ++ behind)

-- no name twice
abbrev pub Apart : List ℕ → List (List ℕ) → Type 0
Apart name [] = Unit {0}
Apart name (other ∷ others) = (name ≢ other) × Apart name others

abbrev pub Distinct : List (List ℕ) → Type 0
Distinct [] = Unit {0}
Distinct (name ∷ names) = Apart name names × Distinct names
