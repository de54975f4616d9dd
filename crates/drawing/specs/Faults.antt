-- What each fault says: its number and word, and the attribute and node it was in, where there is one.
use Rattle.std.specs.Prelude.{ℕ, List, Some, None, codes, Option}
use Rattle.drawing.specs.declared.names.AId.{AId}
use Rattle.drawing.specs.declared.faults.Rule.{Rule}
use Rattle.drawing.specs.declared.faults.Rule.TheVariants as rule
use Rattle.drawing.specs.declared.faults.ValueFault.{ValueFault}
use Rattle.drawing.specs.declared.faults.ValueFault.TheVariants.{Place, Id, Empty, Number, Text, Family}
use Rattle.drawing.specs.declared.faults.Found.{Found}
use Rattle.drawing.specs.declared.faults.AttributeFault.{AttributeFault}
use Rattle.drawing.specs.declared.faults.NodeFault.{NodeFault}
use Rattle.drawing.specs.declared.faults.Fault.{Fault}
use Rattle.drawing.specs.declared.faults.Fault.TheVariants.{Setting, Moment, Table, Value, Full}

-- each layer holds the lower one whole
abbrev pub in_attribute : Found AId ValueFault → AttributeFault
in_attribute found = record { attribute = Some found.place; fault = found.fault }

-- of a text that stands in no attribute
abbrev pub outside_attributes : ValueFault → AttributeFault
outside_attributes fault = record { attribute = None; fault = fault }

abbrev pub in_node : Found ℕ AttributeFault → NodeFault
in_node found = record { node = Some found.place; fault = found.fault }

abbrev pub outside_nodes : AttributeFault → Fault
outside_nodes fault = Value (record { node = None; fault = fault })

abbrev pub of_node : NodeFault → Fault
of_node fault = Value fault

abbrev pub rule_number : Rule → ℕ
rule_number rule.Setting = 1
rule_number rule.Moment = 2
rule_number rule.Table = 3
rule_number rule.Id = 4
rule_number rule.Empty = 5
rule_number rule.Number = 6
rule_number rule.Text = 7
rule_number rule.Family = 8
rule_number rule.Full = 9

abbrev pub rule_word : Rule → List ℕ
rule_word rule.Setting = codes "setting"
rule_word rule.Moment = codes "moment"
rule_word rule.Table = codes "table"
rule_word rule.Id = codes "id"
rule_word rule.Empty = codes "empty"
rule_word rule.Number = codes "number"
rule_word rule.Text = codes "text"
rule_word rule.Family = codes "family"
rule_word rule.Full = codes "full"

abbrev pub value_number : ValueFault → ℕ
value_number Place = 3
value_number (Id fault) = 4
value_number Empty = 5
value_number (Number fault) = 6
value_number Text = 7
value_number Family = 8

abbrev pub value_word : ValueFault → List ℕ
value_word Place = codes "table"
value_word (Id fault) = codes "id"
value_word Empty = codes "empty"
value_word (Number fault) = codes "number"
value_word Text = codes "text"
value_word Family = codes "family"

pub record Report : Type 0 where
  pub number : ℕ
  pub word : List ℕ
  pub attribute : Option AId
  pub node : Option ℕ

-- one definition for every fault
abbrev pub report : Fault → Report
report Setting = record { number = 1; word = codes "setting"; attribute = None; node = None }
report Moment = record { number = 2; word = codes "moment"; attribute = None; node = None }
report (Table drawn) = record { number = 3; word = codes "table"; attribute = None; node = drawn }
report (Value found) =
    record {
      number = value_number found.fault.fault;
      word = value_word found.fault.fault;
      attribute = found.fault.attribute;
      node = found.node;
    }
report Full = record { number = 9; word = codes "full"; attribute = None; node = None }
