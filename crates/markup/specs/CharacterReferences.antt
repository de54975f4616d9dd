-- References of XML 1.0: characters by number and the five entities that are always declared.
use Rattle.std.specs.Prelude.{ℕ, ◌+◌, ◌-◌, ◌*◌, cond, T, List, [], ◌∷◌, ◌++◌, codes, nat_lt}
use Rattle.markup.specs.Characters.{OneOrMore, is_char, is_digit, is_hex_digit}

-- 4.6 Predefined Entities. Content has no declarations, so no other entity may be referred to (WFC: Entity Declared), and
-- there is none that is unparsed, external or recursive.
pub data Entity : Type 0 where
  amp lt gt quot apos : Entity

abbrev pub entity_name : Entity → List ℕ
entity_name amp = codes "amp"
entity_name lt = codes "lt"
entity_name gt = codes "gt"
entity_name quot = codes "quot"
entity_name apos = codes "apos"

abbrev pub entity_character : Entity → ℕ
entity_character amp = 0x26
entity_character lt = 0x3C
entity_character gt = 0x3E
entity_character quot = 0x22
entity_character apos = 0x27

-- [67] Reference ::= EntityRef | CharRef
-- [68] EntityRef ::= '&' Name ';'
-- [66] CharRef ::= '&#' [0-9]+ ';' | '&#x' [0-9a-fA-F]+ ';'
pub data Reference : Type 0 where
  entity_ref : Entity → Reference
  decimal_ref : List ℕ → Reference
  hexadecimal_ref : List ℕ → Reference

abbrev pub reference_then : Reference → List ℕ → List ℕ
reference_then (entity_ref e) rest = codes "&" ++ (entity_name e ++ (codes ";" ++ rest))
reference_then (decimal_ref digits) rest = codes "&#" ++ (digits ++ (codes ";" ++ rest))
reference_then (hexadecimal_ref digits) rest = codes "&#x" ++ (digits ++ (codes ";" ++ rest))

-- the number that digits stand for: 0 to 9, A to F, a to f
abbrev pub digit_value : ℕ → ℕ
digit_value c = cond (nat_lt c 0x3A) (c - 0x30) (cond (nat_lt c 0x47) (c - 0x41 + 10) (c - 0x61 + 10))

abbrev pub number_from : ℕ → ℕ → List ℕ → ℕ
number_from base so_far [] = so_far
number_from base so_far (d ∷ ds) = number_from base (base * so_far + digit_value d) ds

abbrev pub referred : Reference → ℕ
referred (entity_ref e) = entity_character e
referred (decimal_ref digits) = number_from 10 0 digits
referred (hexadecimal_ref digits) = number_from 16 0 digits

-- WFC: Legal Character
abbrev pub ReferenceStands : Reference → Type 0
ReferenceStands (entity_ref e) = Unit {0}
ReferenceStands (decimal_ref digits) = OneOrMore is_digit digits × T (is_char (number_from 10 0 digits))
ReferenceStands (hexadecimal_ref digits) = OneOrMore is_hex_digit digits × T (is_char (number_from 16 0 digits))
