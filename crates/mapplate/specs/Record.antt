-- The lines of a record that tell of a call: what was opened, and why a call was refused.
use Rattle.std.specs.Prelude.{ℕ, List, [], ◌∷◌, ◌++◌, Some, None, codes, decimal, Option}
use Rattle.drawing.specs.declared.names.AId.{AId}
use Rattle.drawing.specs.declared.faults.Fault.{Fault}
use Rattle.drawing.specs.Faults.{report}
use Rattle.drawing.specs.Names.{attribute_name}
use Rattle.plates.specs.declared.elements.Element.{Element}
use Rattle.plates.specs.Elements.{element_name}
use Rattle.scripts.specs.Quoting.{quoted_form}

-- the quoted id behind a space (32); none where there is no id
abbrev pub shown_id : List ℕ → List ℕ
shown_id [] = []
shown_id (b ∷ bs) = 32 ∷ quoted_form (b ∷ bs)

-- open NAME "ID"
abbrev pub opened : Element → List ℕ → List ℕ
opened element id = codes "open " ++ element_name element ++ shown_id id

abbrev pub shown_attribute : Option AId → List ℕ
shown_attribute None = []
shown_attribute (Some name) = codes ", attribute " ++ attribute_name name

abbrev pub shown_node : Option ℕ → List ℕ
shown_node None = []
shown_node (Some node) = codes ", node " ++ decimal node

-- : refused, NUMBER WORD, attribute NAME, node NODE, and a line feed (10)
abbrev pub refused_by : ℕ → List ℕ → Option AId → Option ℕ → List ℕ
refused_by number word attribute node =
    codes ": refused, " ++ decimal number ++ codes " " ++ word ++ shown_attribute attribute ++ shown_node node ++ (10 ∷ [])

abbrev pub refusal : Fault → List ℕ
refusal fault = refused_by (report fault).number (report fault).word (report fault).attribute (report fault).node
