-- A machine that goes through a text character by character and dies where the text cannot be well-formed content. That it
-- lives through all content is shown in Recognized; so a text on which it dies has no reading.
use Rattle.std.proofs.Common.{ℕ, ◌+◌, ◌*◌, Bool, true, false, cond, not, ◌&&◌, eqb, List, [], ◌∷◌, ◌++◌, map, codes}
use lib.Utf8.{encodes, scalars}
use Rattle.std.specs.Str.{bytes_eq, chars}
use Rattle.markup.specs.Characters.{is_char, is_space, is_name_start, is_name_char, is_digit, is_hex_digit, is_data, is_data_but}
use Rattle.markup.specs.CharacterReferences.{digit_value}
use Rattle.markup.specs.Content.{small_letter}
use Rattle.markup.specs.Readings.{normal_line_ends}
use Rattle.markup.specs.Checks.{is_name, are_distinct}

-- how many of `]]` stand just before
pub data Brackets : Type 0 where
  none one two : Brackets

abbrev pub one_more : Brackets → Brackets
one_more none = one
one_more one = two
one_more two = two

pub data Mode : Type 0 where
  text : Brackets → Mode
  less : Mode
  bang : Mode
  -- these characters must come, and then it goes on
  expect : List ℕ → Mode → Mode
  in_comment : Mode
  after_hyphen : Mode
  section : Brackets → Mode
  target : List ℕ → Mode
  in_instruction : Mode
  after_question : Mode
  -- in a start tag: its name, and the names of the attributes so far
  tag_name : List ℕ → Mode
  in_tag : List ℕ → List (List ℕ) → Mode
  attribute_name : List ℕ → List (List ℕ) → List ℕ → Mode
  before_equals : List ℕ → List (List ℕ) → List ℕ → Mode
  after_equals : List ℕ → List (List ℕ) → Mode
  in_value : ℕ → List ℕ → List (List ℕ) → Mode
  after_value : List ℕ → List (List ℕ) → Mode
  end_name : List ℕ → Mode
  after_end_name : List ℕ → Mode
  -- in a reference, and where it goes on afterwards
  ampersand : Mode → Mode
  entity : Mode → List ℕ → Mode
  hash : Mode → Mode
  decimal : Mode → ℕ → Mode
  hash_x : Mode → Mode
  hexadecimal : Mode → ℕ → Mode
  dead : Mode

-- the names of the open elements, innermost first, and the mode
abbrev pub State : Type 0
State = List (List ℕ) × Mode

abbrev pub at : List (List ℕ) → Mode → State
at names mode = (names, mode)

abbrev pub data_step : List (List ℕ) → Brackets → ℕ → State
data_step names b c = cond (eqb c 93) (at names (text (one_more b))) (cond (eqb c 62) (greater b) (at names (text none)))
  where
    greater : Brackets → State
    greater none = at names (text none)
    greater one = at names (text none)
    greater two = at names dead

-- the end of a start tag or of an empty-element tag
abbrev pub tag_ends : List (List ℕ) → List ℕ → List (List ℕ) → ℕ → State
tag_ends names name given c =
    cond (eqb c 62) (cond (are_distinct given) (at (name ∷ names) (text none)) (at names dead))
    (cond (eqb c 47) (cond (are_distinct given) (at names (expect (62 ∷ []) (text none))) (at names dead)) (at names dead))

abbrev pub after_attribute : List (List ℕ) → List ℕ → List (List ℕ) → ℕ → State
after_attribute names name given c = cond (is_space c) (at names (in_tag name given)) (tag_ends names name given c)

abbrev pub equals_step : List (List ℕ) → List ℕ → List (List ℕ) → List ℕ → ℕ → State
equals_step names name given attribute c =
    cond (is_space c) (at names (before_equals name given attribute)) (cond (eqb c 61) (at names (after_equals name (given ++ attribute ∷ []))) (at names dead))

abbrev pub ends_element : List ℕ → List (List ℕ) → State
ends_element name [] = at [] dead
ends_element name (open-name ∷ names) = cond (bytes_eq name open-name) (at names (text none)) (at names dead)

abbrev pub end_step : List (List ℕ) → List ℕ → ℕ → State
end_step names name c = cond (is_space c) (at names (after_end_name name)) (cond (eqb c 62) (ends_element name names) (at names dead))

abbrev pub is_target : List ℕ → Bool
is_target name = is_name name && not (bytes_eq (map small_letter name) (codes "xml"))

abbrev pub is_entity : List ℕ → Bool
is_entity name = cond (bytes_eq name (codes "amp")) true (cond (bytes_eq name (codes "lt")) true (cond (bytes_eq name (codes "gt")) true (cond (bytes_eq name (codes "quot")) true (bytes_eq name (codes "apos")))))

abbrev pub step : List (List ℕ) → Mode → ℕ → State
step names (text b) c = cond (is_data c) (data_step names b c) (cond (eqb c 60) (at names less) (cond (eqb c 38) (at names (ampersand (text none))) (at names dead)))
step names less c =
    cond (is_name_start c) (at names (tag_name (c ∷ [])))
    (cond (eqb c 47) (at names (end_name [])) (cond (eqb c 33) (at names bang) (cond (eqb c 63) (at names (target [])) (at names dead))))
step names bang c = cond (eqb c 45) (at names (expect (codes "-") in_comment)) (cond (eqb c 91) (at names (expect (codes "CDATA[") (section none))) (at names dead))
step names (expect [] mode) c = at names dead
step names (expect (x ∷ []) mode) c = cond (eqb c x) (at names mode) (at names dead)
step names (expect (x ∷ y ∷ more) mode) c = cond (eqb c x) (at names (expect (y ∷ more) mode)) (at names dead)
step names in_comment c = cond (eqb c 45) (at names after_hyphen) (cond (is_char c) (at names in_comment) (at names dead))
step names after_hyphen c = cond (eqb c 45) (at names (expect (62 ∷ []) (text none))) (cond (is_char c) (at names in_comment) (at names dead))
step names (section none) c = cond (eqb c 93) (at names (section one)) (cond (is_char c) (at names (section none)) (at names dead))
step names (section one) c = cond (eqb c 93) (at names (section two)) (cond (is_char c) (at names (section none)) (at names dead))
step names (section two) c = cond (eqb c 93) (at names (section two)) (cond (eqb c 62) (at names (text none)) (cond (is_char c) (at names (section none)) (at names dead)))
step names (target name) c =
    cond (is_name_char c) (at names (target (name ++ c ∷ [])))
    (cond (is_space c) (cond (is_target name) (at names in_instruction) (at names dead))
    (cond (eqb c 63) (cond (is_target name) (at names (expect (62 ∷ []) (text none))) (at names dead)) (at names dead)))
step names in_instruction c = cond (eqb c 63) (at names after_question) (cond (is_char c) (at names in_instruction) (at names dead))
step names after_question c = cond (eqb c 62) (at names (text none)) (cond (eqb c 63) (at names after_question) (cond (is_char c) (at names in_instruction) (at names dead)))
step names (tag_name name) c = cond (is_name_char c) (at names (tag_name (name ++ c ∷ []))) (after_attribute names name [] c)
step names (in_tag name given) c = cond (is_name_start c) (at names (attribute_name name given (c ∷ []))) (after_attribute names name given c)
step names (attribute_name name given attribute) c = cond (is_name_char c) (at names (attribute_name name given (attribute ++ c ∷ []))) (equals_step names name given attribute c)
step names (before_equals name given attribute) c = equals_step names name given attribute c
step names (after_equals name given) c =
    cond (is_space c) (at names (after_equals name given)) (cond (eqb c 34) (at names (in_value 34 name given)) (cond (eqb c 39) (at names (in_value 39 name given)) (at names dead)))
step names (in_value quote name given) c =
    cond (is_data_but quote c) (at names (in_value quote name given))
    (cond (eqb c quote) (at names (after_value name given)) (cond (eqb c 38) (at names (ampersand (in_value quote name given))) (at names dead)))
step names (after_value name given) c = after_attribute names name given c
step names (end_name name) c = cond (is_name_char c) (at names (end_name (name ++ c ∷ []))) (end_step names name c)
step names (after_end_name name) c = end_step names name c
step names (ampersand mode) c = cond (eqb c 35) (at names (hash mode)) (at names (entity mode (c ∷ [])))
step names (entity mode name) c = cond (eqb c 59) (cond (is_entity name) (at names mode) (at names dead)) (at names (entity mode (name ++ c ∷ [])))
step names (hash mode) c = cond (is_digit c) (at names (decimal mode (10 * 0 + digit_value c))) (cond (eqb c 120) (at names (hash_x mode)) (at names dead))
step names (decimal mode n) c = cond (is_digit c) (at names (decimal mode (10 * n + digit_value c))) (cond (eqb c 59) (cond (is_char n) (at names mode) (at names dead)) (at names dead))
step names (hash_x mode) c = cond (is_hex_digit c) (at names (hexadecimal mode (16 * 0 + digit_value c))) (at names dead)
step names (hexadecimal mode n) c = cond (is_hex_digit c) (at names (hexadecimal mode (16 * n + digit_value c))) (cond (eqb c 59) (cond (is_char n) (at names mode) (at names dead)) (at names dead))
step names dead c = at names dead

-- at the end: in text, and nothing is open
abbrev pub ends_well : List (List ℕ) → Mode → Bool
ends_well [] (text b) = true
ends_well (n ∷ names) (text b) = false
ends_well names less = false
ends_well names bang = false
ends_well names (expect more mode) = false
ends_well names in_comment = false
ends_well names after_hyphen = false
ends_well names (section b) = false
ends_well names (target name) = false
ends_well names in_instruction = false
ends_well names after_question = false
ends_well names (tag_name name) = false
ends_well names (in_tag name given) = false
ends_well names (attribute_name name given attribute) = false
ends_well names (before_equals name given attribute) = false
ends_well names (after_equals name given) = false
ends_well names (in_value quote name given) = false
ends_well names (after_value name given) = false
ends_well names (end_name name) = false
ends_well names (after_end_name name) = false
ends_well names (ampersand mode) = false
ends_well names (entity mode name) = false
ends_well names (hash mode) = false
ends_well names (decimal mode n) = false
ends_well names (hash_x mode) = false
ends_well names (hexadecimal mode n) = false
ends_well names dead = false

abbrev pub run : List (List ℕ) → Mode → List ℕ → Bool
run names mode [] = ends_well names mode
run names mode (c ∷ cs) = let s = step names mode c in run s.0 s.1 cs

-- bytes that are UTF-8, and live through
abbrev pub plausible : List ℕ → Bool
plausible bytes = scalars (chars bytes) && (bytes_eq (encodes (chars bytes)) bytes && run [] (text none) (normal_line_ends false (chars bytes)))
