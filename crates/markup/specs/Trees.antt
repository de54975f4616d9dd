-- What is meant by a piece of XML: characters and elements in order, each followed by what comes after it.
use Rattle.std.specs.Prelude.{ℕ, Bool, true, false, T, List, [], ◌∷◌, map}
use Rattle.markup.specs.Attributes.{Attribute}
use Rattle.markup.specs.Characters.{is_char, Name, ZeroOrMore, Distinct}

-- A is what an element has besides its name and its children
pub data Forest (A : Type 0) : Type 0 where
  empty : Forest A
  character : ℕ → Forest A → Forest A
  -- its name, what it has, its children, and what comes after it
  element : List ℕ → A → Forest A → Forest A → Forest A

-- as it is to be written: each attribute with its own quote
abbrev pub Written : Type 0
Written = Forest (List Attribute)

-- as it is read: names and values of attributes, in order
abbrev pub Read : Type 0
Read = Forest (List (List ℕ × List ℕ))

abbrev pub characters : {A : Type 0} → List ℕ → Forest A → Forest A
characters [] more = more
characters (c ∷ cs) more = character c (characters cs more)

abbrev pub is_empty : {A : Type 0} → Forest A → Bool
is_empty empty = true
is_empty (character c more) = false
is_empty (element name has children more) = false

-- one forest and then another
abbrev pub followed_by : {A : Type 0} → Forest A → Forest A → Forest A
followed_by empty after = after
followed_by (character c more) after = character c (followed_by more after)
followed_by (element name has children more) after = element name has children (followed_by more after)

-- the same forest, with f of what each element has
abbrev pub each : {A B : Type 0} → (A → B) → Forest A → Forest B
each f empty = empty
each f (character c more) = character c (each f more)
each f (element name has children more) = element name (f has) (each f children) (each f more)

-- the quotes forgotten
abbrev pub name_and_value : Attribute → List ℕ × List ℕ
name_and_value a = (a.name, a.value)

abbrev pub plain : Written → Read
plain = each (map name_and_value)

abbrev pub attribute_names : List Attribute → List (List ℕ)
attribute_names [] = []
attribute_names (a ∷ more) = a.name ∷ attribute_names more

-- What may be written: legal characters and names, and no attribute twice

abbrev pub LegalAttributes : List Attribute → Type 0
LegalAttributes [] = Unit {0}
LegalAttributes (a ∷ more) = Name a.name × ZeroOrMore is_char a.value × LegalAttributes more

abbrev pub WellFormed : Written → Type 0
WellFormed empty = Unit {0}
WellFormed (character c more) = T (is_char c) × WellFormed more
WellFormed (element name attributes children more) =
    Name name × LegalAttributes attributes × Distinct (attribute_names attributes) × WellFormed children × WellFormed more
