-- How the bytes of an unfinished forest grow, and what they read as with the closing marks after them.
use Rattle.std.specs.Prelude.{◌≡◌, ℕ, Bool, true, false, List, [], ◌∷◌, ◌++◌, map}
use Rattle.std.proofs.Math.Utf8.{encodes}
use Rattle.markup.specs.Attributes.{Attribute, attributes_then}
use Rattle.markup.specs.Characters.{Name, Distinct}
use Rattle.markup.specs.Trees.{empty, Written, is_empty, plain, attribute_names, LegalAttributes, WellFormed}
use Rattle.markup.specs.Renderings.{render, encoded, encoded_attribute}
use Rattle.markup.specs.Readings.{ReadsOnlyAs}
use Rattle.markup.specs.Unfinished.{OpenElement, Unfinished, unfinished, open_names, in_start_tag, start_tag, before_content, so_far, end_mark, closing_marks, owed, begin, give, add, end_innermost, finished, Legal, encoded_unfinished}

-- each step appends to the bytes so far
pub record Growth : Type 0 where
  pub begun : (name : List ℕ) (attributes : List Attribute) (u : Unfinished) → so_far (begin name attributes u) ≡ so_far u ++ (before_content (in_start_tag u.stack) ++ start_tag name attributes)
  pub given : (attributes : List Attribute) (u : Unfinished) → in_start_tag u.stack ≡ true → so_far (give attributes u) ≡ so_far u ++ attributes_then attributes []
  pub added : (content : Written) (u : Unfinished) → is_empty content ≡ false → so_far (add content u) ≡ so_far u ++ (before_content (in_start_tag u.stack) ++ render content [])
  pub added_nothing : (u : Unfinished) → add empty u ≡ u
  pub ended : (outside : Written) (e : OpenElement) (around : List OpenElement) → so_far (end_innermost (unfinished outside (e ∷ around))) ≡ so_far (unfinished outside (e ∷ around)) ++ end_mark (is_empty e.children) e.name

-- and so do the names that are open, and whether a start tag is unfinished
pub record GrowthOfNames : Type 0 where
  pub given : (attributes : List Attribute) (u : Unfinished) → (open_names (give attributes u).stack ≡ open_names u.stack) × (in_start_tag (give attributes u).stack ≡ in_start_tag u.stack)
  pub added : (content : Written) (u : Unfinished) → is_empty content ≡ false → (open_names (add content u).stack ≡ open_names u.stack) × (in_start_tag (add content u).stack ≡ false)
  pub ended : (outside : Written) (e : OpenElement) (around : List OpenElement) → (open_names (end_innermost (unfinished outside (e ∷ around))).stack ≡ open_names around) × (in_start_tag (end_innermost (unfinished outside (e ∷ around))).stack ≡ false)

-- the closing marks end the forest, and ending the innermost element pays for a part of them
pub record ClosingMarks : Type 0 where
  pub whole : (u : Unfinished) → so_far u ++ owed u ≡ render (finished u) []
  pub ended : (outside : Written) (e : OpenElement) (around : List OpenElement) → end_mark (is_empty e.children) e.name ++ owed (end_innermost (unfinished outside (e ∷ around))) ≡ owed (unfinished outside (e ∷ around))
  pub same_forest : (u : Unfinished) → finished (end_innermost u) ≡ finished u
  pub at_the_end : (outside : Written) → finished (unfinished outside []) ≡ outside

-- each step keeps what may be written
pub record LegalSteps : Type 0 where
  pub begun : (name : List ℕ) (attributes : List Attribute) (u : Unfinished) → Name name → LegalAttributes attributes → Distinct (attribute_names attributes) → Legal u → Legal (begin name attributes u)
  pub given : (attributes : List Attribute) (outside : Written) (e : OpenElement) (around : List OpenElement) → LegalAttributes attributes → Distinct (attribute_names (e.attributes ++ attributes)) → Legal (unfinished outside (e ∷ around)) → Legal (give attributes (unfinished outside (e ∷ around)))
  pub added : (content : Written) (u : Unfinished) → WellFormed content → Legal u → Legal (add content u)
  pub ended : (u : Unfinished) → Legal u → Legal (end_innermost u)
  pub finished : (u : Unfinished) → Legal u → WellFormed (finished u)

-- bytes are the encoding of characters, and each step on characters is the same step on bytes
pub record EncodedSoFar : Type 0 where
  pub bytes : (u : Unfinished) → so_far (encoded_unfinished u) ≡ encodes (so_far u)
  pub marks : (unended : Bool) (names : List (List ℕ)) → closing_marks unended (map encodes names) ≡ encodes (closing_marks unended names)
  pub owed : (u : Unfinished) → owed (encoded_unfinished u) ≡ encodes (owed u)
  pub names : (u : Unfinished) → open_names (encoded_unfinished u).stack ≡ map encodes (open_names u.stack)
  pub tag : (u : Unfinished) → in_start_tag (encoded_unfinished u).stack ≡ in_start_tag u.stack
  pub begun : (name : List ℕ) (attributes : List Attribute) (u : Unfinished) → encoded_unfinished (begin name attributes u) ≡ begin (encodes name) (map encoded_attribute attributes) (encoded_unfinished u)
  pub given : (attributes : List Attribute) (u : Unfinished) → encoded_unfinished (give attributes u) ≡ give (map encoded_attribute attributes) (encoded_unfinished u)
  pub added : (content : Written) (u : Unfinished) → encoded_unfinished (add content u) ≡ add (encoded content) (encoded_unfinished u)
  pub ended : (u : Unfinished) → encoded_unfinished (end_innermost u) ≡ end_innermost (encoded_unfinished u)

-- The bytes so far, with the closing marks after them, read as the finished forest and as nothing else. So do the bytes that
-- writers put down, who work on bytes throughout.
pub record ReadsBackUnfinished : Type 0 where
  pub characters : (u : Unfinished) → Legal u → ReadsOnlyAs (encodes (so_far u) ++ encodes (owed u)) (plain (finished u))
  pub bytes : (u : Unfinished) → Legal u → ReadsOnlyAs (so_far (encoded_unfinished u) ++ owed (encoded_unfinished u)) (plain (finished u))
