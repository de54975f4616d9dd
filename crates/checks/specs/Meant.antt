-- What the code's entries mean, and what a check of an item goes through.
use Rattle.std.specs.Prelude.{◌≡◌, List, length, None}
use Rattle.drawing.specs.declared.faults.AttributeFault.{AttributeFault}
use Rattle.drawing.specs.declared.rows.Place.{Place}
use Rattle.drawing.specs.Tables as tables
use Rattle.checks.specs.declared.entries.Rule.{Rule}
use Rattle.checks.specs.declared.entries.Entry.{Entry}
use Rattle.checks.specs.declared.entries.Entry.TheVariants as code
use Rattle.checks.specs.Verdicts.{Verdict}
use Rattle.checks.specs.Entries as entries
use Rattle.checks.specs.Entries.{Fields, field, ◌then◌, each, first_at, place_in}

abbrev pub meant : Entry → entries.Entry
meant (code.Row length row) = entries.row_in length row
meant (code.Place length place) = entries.place_in length place
meant (code.AtMost limit count) = entries.at_most limit count
meant (code.OwnId bytes) = entries.own_id bytes.now
meant (code.ReferencedId bytes) = entries.referenced_id bytes.now
meant (code.NotEmpty count) = entries.not_empty count
meant (code.BeginsWithMove segments) = entries.begins_with_move segments.now
meant (code.Number domain x) = entries.number_in domain x
meant (code.Text bytes) = entries.text_of bytes.now
meant (code.Span text start end) = entries.span_of text.now start end
meant (code.FamilyName bytes) = entries.family_name bytes.now

-- what a check answers at an item is the first fault of the item's entries
abbrev pub ChecksFields : {X : Type 0} → (X → Verdict AttributeFault → Type 0) → Rule → (X → Fields) → Type 0
ChecksFields {X} answer rule fields = (x : X) (verdict : Verdict AttributeFault) → answer x verdict → verdict ≡ first_at rule (fields x)

-- a place in a list, and the entries of each item that it names
abbrev pub list_fields : {X : Type 0} → (X → Fields) → List X → Place → Fields
list_fields fields xs place = field None (place_in (length xs) place) then each fields (tables.entries xs place)
