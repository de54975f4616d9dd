-- Attribute specifications of XML 1.0, as they stand in a start tag or an empty-element tag.
use Rattle.std.specs.Prelude.{ℕ, cond, T, List, [], ◌∷◌, ◌++◌, codes}
use Rattle.markup.specs.declared.quotes.Quote.{Quote}
use Rattle.markup.specs.Escapes.{quote_mark}
use Rattle.markup.specs.Characters.{ZeroOrMore, OneOrMore, Name, is_space, is_data_but}
use Rattle.markup.specs.CharacterReferences.{Reference, reference_then, referred, ReferenceStands}

-- [10] AttValue ::= '"' ([^<&"] | Reference)* '"' | "'" ([^<&'] | Reference)* "'", what stands between the quotes
pub data ValuePiece : Type 0 where
  literal : ℕ → ValuePiece
  referring : Reference → ValuePiece

abbrev pub pieces_then : List ValuePiece → List ℕ → List ℕ
pieces_then [] rest = rest
pieces_then (literal c ∷ pieces) rest = c ∷ pieces_then pieces rest
pieces_then (referring r ∷ pieces) rest = reference_then r (pieces_then pieces rest)

abbrev pub PiecesStand : ℕ → List ValuePiece → Type 0
PiecesStand quote [] = Unit {0}
PiecesStand quote (literal c ∷ pieces) = T (is_data_but quote c) × PiecesStand quote pieces
PiecesStand quote (referring r ∷ pieces) = ReferenceStands r × PiecesStand quote pieces

-- 3.3.3 Attribute-Value Normalization: white space reads as a space, a character that is referred to as itself
abbrev pub normalized : List ValuePiece → List ℕ
normalized [] = []
normalized (literal c ∷ pieces) = cond (is_space c) 0x20 c ∷ normalized pieces
normalized (referring r ∷ pieces) = referred r ∷ normalized pieces

-- S Attribute, with [41] Attribute ::= Name Eq AttValue and [25] Eq ::= S? '=' S?
pub record Specification : Type 0 where
  pub space : List ℕ
  pub name : List ℕ
  pub space_before_equals : List ℕ
  pub space_after_equals : List ℕ
  pub quote : Quote
  pub value : List ValuePiece

-- (S Attribute)*
abbrev pub specifications_then : List Specification → List ℕ → List ℕ
specifications_then [] rest = rest
specifications_then (s ∷ more) rest =
    s.space ++ (s.name ++ (s.space_before_equals ++ (codes "=" ++ (s.space_after_equals
    ++ (quote_mark s.quote ∷ pieces_then s.value (quote_mark s.quote ∷ specifications_then more rest))))))

abbrev pub SpecificationsStand : List Specification → Type 0
SpecificationsStand [] = Unit {0}
SpecificationsStand (s ∷ more) =
    OneOrMore is_space s.space × Name s.name × ZeroOrMore is_space s.space_before_equals
    × ZeroOrMore is_space s.space_after_equals × PiecesStand (quote_mark s.quote) s.value × SpecificationsStand more

abbrev pub specified_names : List Specification → List (List ℕ)
specified_names [] = []
specified_names (s ∷ more) = s.name ∷ specified_names more

abbrev pub specified : List Specification → List (List ℕ × List ℕ)
specified [] = []
specified (s ∷ more) = (s.name, normalized s.value) ∷ specified more
