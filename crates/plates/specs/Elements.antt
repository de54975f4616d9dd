-- The elements that open writes, and the attributes of their start tags.
use Rattle.std.specs.Prelude.{ℕ, Bool, true, false, cond, List, [], ◌∷◌, ◌++◌, codes}
use Rattle.markup.specs.declared.quotes.Quote.{Quote}
use Rattle.markup.specs.declared.quotes.Quote.TheVariants.{Double, Single}
use Rattle.markup.specs.Attributes.{Attribute, attribute}
use Rattle.drawing.specs.declared.options.WriteOptions.{WriteOptions}
use Rattle.drawing.specs.Options.{prefix_of}
use Rattle.plates.specs.declared.elements.Element.{Element}
use Rattle.plates.specs.declared.elements.Element.TheVariants.{Svg, G, Defs, Mask, Pattern, LinearGradient, RadialGradient}

abbrev pub element_name : Element → List ℕ
element_name Svg = codes "svg"
element_name G = codes "g"
element_name Defs = codes "defs"
element_name Mask = codes "mask"
element_name Pattern = codes "pattern"
element_name LinearGradient = codes "linearGradient"
element_name RadialGradient = codes "radialGradient"

abbrev pub is_gradient : Element → Bool
is_gradient Svg = false
is_gradient G = false
is_gradient Defs = false
is_gradient Mask = false
is_gradient Pattern = false
is_gradient LinearGradient = true
is_gradient RadialGradient = true

abbrev pub quote_of : WriteOptions → Quote
quote_of o = cond o.use_single_quote Single Double

-- an id with its prefix; an empty id is none, whatever the prefix
abbrev pub id_attributes : WriteOptions → List ℕ → List Attribute
id_attributes o [] = []
id_attributes o (b ∷ bs) = attribute (quote_of o) (codes "id") (prefix_of o ++ (b ∷ bs)) ∷ []

-- an svg element names its two namespaces
abbrev pub namespaces : Quote → Element → List Attribute
namespaces q Svg =
    attribute q (codes "xmlns") (codes "http://www.w3.org/2000/svg")
    ∷ attribute q (codes "xmlns:xlink") (codes "http://www.w3.org/1999/xlink") ∷ []
namespaces q G = []
namespaces q Defs = []
namespaces q Mask = []
namespaces q Pattern = []
namespaces q LinearGradient = []
namespaces q RadialGradient = []

-- what open gives an element
abbrev pub opening_attributes : WriteOptions → Element → List ℕ → List Attribute
opening_attributes o name id = id_attributes o id ++ namespaces (quote_of o) name
