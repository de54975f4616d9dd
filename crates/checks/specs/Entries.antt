-- The entries of a row: each a value that one rule looks at.
use Rattle.std.specs.Prelude.{ℕ, ◌+◌, Bool, true, false, cond, List, [], ◌∷◌, Ok, Option, ◌==◌, nat_le, nat_lt, Float}
use Rattle.drawing.specs.declared.names.AId.{AId}
use Rattle.drawing.specs.declared.faults.ValueFault.{ValueFault}
use Rattle.drawing.specs.declared.faults.ValueFault.TheVariants as fault
use Rattle.drawing.specs.declared.faults.AttributeFault.{AttributeFault}
use Rattle.drawing.specs.declared.rows.Place.{Place}
use Rattle.drawing.specs.declared.rows.PathSegment.{PathSegment}
use Rattle.drawing.specs.declared.rows.PathSegment.TheVariants.{MoveTo, LineTo, QuadTo, CubicTo, Close}
use Rattle.checks.specs.declared.numbers.Domain.{Domain}
use Rattle.checks.specs.declared.entries.Rule.{Rule}
use Rattle.checks.specs.declared.entries.Rule.TheVariants as rule
use Rattle.checks.specs.Verdicts.{Verdict, before, recast, verdict_of}
use Rattle.checks.specs.Ids.{id_verdict, reference_verdict}
use Rattle.checks.specs.Numbers.{number_verdict}
use Rattle.checks.specs.Texts.{text_stands, span_lies}
use Rattle.checks.specs.Families.{plain_bytes}

pub data Entry : Type 0 where
  row_in : ℕ → ℕ → Entry  -- the length of a list, a row of it
  place_in : ℕ → Place → Entry  -- the length of a list, a place in it
  at_most : ℕ → ℕ → Entry  -- a limit, a count
  own_id : List ℕ → Entry
  referenced_id : List ℕ → Entry
  not_empty : ℕ → Entry  -- a count
  begins_with_move : List PathSegment → Entry
  number_in : Domain → Float → Entry
  text_of : List ℕ → Entry
  span_of : List ℕ → ℕ → ℕ → Entry  -- a text, where a span of it starts and ends
  family_name : List ℕ → Entry

-- the rule that looks at it
abbrev pub rule_of : Entry → Rule
rule_of (row_in length row) = rule.Place
rule_of (place_in length place) = rule.Place
rule_of (at_most limit count) = rule.Place
rule_of (own_id bytes) = rule.Id
rule_of (referenced_id bytes) = rule.Id
rule_of (not_empty count) = rule.Empty
rule_of (begins_with_move segments) = rule.Empty
rule_of (number_in domain x) = rule.Number
rule_of (text_of bytes) = rule.Text
rule_of (span_of bytes start end) = rule.Text
rule_of (family_name bytes) = rule.Family

-- the rules by their numbers
abbrev pub rule_number : Rule → ℕ
rule_number rule.Place = 3
rule_number rule.Id = 4
rule_number rule.Empty = 5
rule_number rule.Number = 6
rule_number rule.Text = 7
rule_number rule.Family = 8

-- a place lies in a list of that length
abbrev pub lies : ℕ → Place → Bool
lies length place = nat_le (place.start + place.count) length

abbrev pub moves_first : List PathSegment → Bool
moves_first [] = false
moves_first (MoveTo p ∷ segments) = true
moves_first (LineTo p ∷ segments) = false
moves_first (QuadTo p q ∷ segments) = false
moves_first (CubicTo p q r ∷ segments) = false
moves_first (Close ∷ segments) = false

-- what its rule says of it
abbrev pub entry_verdict : Entry → Verdict ValueFault
entry_verdict (row_in length row) = verdict_of (nat_lt row length) fault.Place
entry_verdict (place_in length place) = verdict_of (lies length place) fault.Place
entry_verdict (at_most limit count) = verdict_of (nat_le count limit) fault.Place
entry_verdict (own_id bytes) = id_verdict bytes
entry_verdict (referenced_id bytes) = reference_verdict bytes
entry_verdict (not_empty count) = verdict_of (nat_lt 0 count) fault.Empty
entry_verdict (begins_with_move segments) = verdict_of (moves_first segments) fault.Empty
entry_verdict (number_in domain x) = number_verdict domain x
entry_verdict (text_of bytes) = verdict_of (text_stands bytes) fault.Text
entry_verdict (span_of bytes start end) = verdict_of (span_lies bytes start end) fault.Text
entry_verdict (family_name bytes) = verdict_of (plain_bytes bytes) fault.Family

-- a fault with the attribute that its value stands in, if any
abbrev pub in_field : Option AId → ValueFault → AttributeFault
in_field attribute fault = record { attribute = attribute; fault = fault }

-- what one rule says of an entry in an attribute: nothing, where another one looks at it
unfoldable pub judged : Rule → Option AId → Entry → Verdict AttributeFault
judged rule attribute e =
    cond (rule_number rule == rule_number (rule_of e)) (recast (in_field attribute) (entry_verdict e)) (Ok tt)

infixr 20 ◌then◌
-- the entries of a row in order, each with its attribute; a part of a row is a tree of its own
pub data Fields : Type 0 where
  none : Fields
  field : Option AId → Entry → Fields
  ◌then◌ : Fields → Fields → Fields

-- the first fault that one rule finds
abbrev pub first_at : Rule → Fields → Verdict AttributeFault
first_at rule none = Ok tt
first_at rule (field attribute e) = judged rule attribute e
first_at rule (fields then others) = before (first_at rule fields) (first_at rule others)

-- the rules for values, one after the other, each over all the entries
abbrev pub by_rules : Fields → Verdict AttributeFault
by_rules fields =
    before (first_at rule.Id fields)
    (before (first_at rule.Empty fields)
    (before (first_at rule.Number fields) (before (first_at rule.Text fields) (first_at rule.Family fields))))

-- the entries of each of a list, in order
unfoldable pub each : {X : Type 0} → (X → Fields) → List X → Fields
each fields [] = none
each fields (x ∷ xs) = fields x then each fields xs
