-- The bytes of tags, and the closing marks: the bytes that would close everything open.
use Rattle.std.specs.Prelude.{ℕ, List, [], ◌∷◌, ◌++◌, codes}
use Rattle.markup.specs.Attributes.{attributes_then}
use Rattle.drawing.specs.declared.options.WriteOptions.{WriteOptions}
use Rattle.plates.specs.declared.elements.Element.{Element}
use Rattle.plates.specs.declared.elements.Stage.{Stage}
use Rattle.plates.specs.declared.elements.Stage.TheVariants.{Fresh, Filled, Body}
use Rattle.plates.specs.Elements.{element_name, opening_attributes}

-- an unfinished start tag
abbrev pub start_tag : WriteOptions → Element → List ℕ → List ℕ
start_tag o name id = codes "<" ++ (element_name name ++ attributes_then (opening_attributes o name id) [])

-- what finishes a start tag before content
abbrev pub finish : Stage → List ℕ
finish Fresh = codes ">"
finish Filled = codes ">"
finish Body = []

abbrev pub end_tag : Element → List ℕ
end_tag name = codes "</" ++ (element_name name ++ codes ">")

-- what ends the innermost element: one without content ends in its start tag
abbrev pub ending : Stage → Element → List ℕ
ending Fresh name = codes "/>"
ending Filled name = codes "/>"
ending Body name = end_tag name

-- the end tags of elements with content, innermost first
abbrev pub end_tags : List Element → List ℕ
end_tags [] = []
end_tags (name ∷ names) = end_tag name ++ end_tags names

abbrev pub closing_marks : Stage → List Element → List ℕ
closing_marks stage [] = []
closing_marks stage (name ∷ names) = ending stage name ++ end_tags names
