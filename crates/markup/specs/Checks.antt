-- The same conditions as tests that compute: of closed names, attributes and forests `tt` shows that they stand.
use Rattle.std.specs.Prelude.{ℕ, Bool, true, false, not, ◌&&◌, T, List, [], ◌∷◌}
use Rattle.std.specs.Str.{bytes_eq}
use Rattle.markup.specs.Attributes.{Attribute}
use Rattle.markup.specs.Characters.{is_char, is_name_start, is_name_char, ZeroOrMore, Name, Distinct}
use Rattle.markup.specs.Trees.{empty, character, element, Written, attribute_names, LegalAttributes, WellFormed}

abbrev pub all_in : (ℕ → Bool) → List ℕ → Bool
all_in class [] = true
all_in class (c ∷ cs) = class c && all_in class cs

abbrev pub is_name : List ℕ → Bool
is_name [] = false
is_name (c ∷ cs) = is_name_start c && all_in is_name_char cs

abbrev pub is_apart : List ℕ → List (List ℕ) → Bool
is_apart name [] = true
is_apart name (other ∷ others) = not (bytes_eq name other) && is_apart name others

abbrev pub are_distinct : List (List ℕ) → Bool
are_distinct [] = true
are_distinct (name ∷ names) = is_apart name names && are_distinct names

abbrev pub are_legal : List Attribute → Bool
are_legal [] = true
are_legal (a ∷ more) = is_name a.name && (all_in is_char a.value && are_legal more)

abbrev pub is_well_formed : Written → Bool
is_well_formed empty = true
is_well_formed (character c more) = is_char c && is_well_formed more
is_well_formed (element name attributes children more) =
    is_name name && (are_legal attributes && (are_distinct (attribute_names attributes) && (is_well_formed children && is_well_formed more)))

-- a test says exactly that
abbrev pub Tests : Bool → Type 0 → Type 0
Tests b P = (T b → P) × (P → T b)

pub record Checks : Type 0 where
  pub all_in : (class : ℕ → Bool) (cs : List ℕ) → Tests (all_in class cs) (ZeroOrMore class cs)
  pub name : (n : List ℕ) → Tests (is_name n) (Name n)
  pub distinct : (names : List (List ℕ)) → Tests (are_distinct names) (Distinct names)
  pub legal : (as_well : List Attribute) → Tests (are_legal as_well) (LegalAttributes as_well)
  pub well_formed : (forest : Written) → Tests (is_well_formed forest) (WellFormed forest)
