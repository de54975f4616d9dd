-- The parts of a start tag, joined.
use Rattle.std.proofs.Common.{◌≡◌, ℕ, ◌<◌, ◌≤◌, List, [], ◌∷◌, ◌++◌, length, codes, sym, refl, ap, ◌∙◌, arith}
use Rattle.markup.specs.Pens.{joined}
use Rattle.markup.specs.Attributes.{Attribute, attribute, attributes_then}
use Rattle.markup.proofs.Written.{attributes_rest, attributes_join}
use Rattle.std.proofs.lemmas.List.{append-nil}
use Rattle.drawing.specs.declared.options.WriteOptions.{WriteOptions}
use Rattle.drawing.specs.Options.{prefix_of}
use Rattle.plates.specs.declared.elements.Element.{Element}
use Rattle.plates.specs.Elements.{element_name, quote_of, id_attributes, namespaces}
use Rattle.plates.specs.Closing.{start_tag}

-- one attribute after another
pub two_attributes : (a b : Attribute) → attributes_then (a ∷ b ∷ []) [] ≡ attributes_then (a ∷ []) [] ++ attributes_then (b ∷ []) []
two_attributes a b = attributes_rest (a ∷ []) (attributes_then (b ∷ []) [])

-- an id that is there, and one that is not
pub id_some : (o : WriteOptions) (id : List ℕ) → 0 < length id → id_attributes o id ≡ attribute (quote_of o) (codes "id") (prefix_of o ++ id) ∷ []
id_some o [] l = absurd (omega arith)
id_some o (b ∷ bs) l = refl

pub id_none : (o : WriteOptions) (id : List ℕ) → length id ≤ 0 → id_attributes o id ≡ []
id_none o [] l = refl
id_none o (b ∷ bs) l = absurd (omega arith)

-- a start tag as its writer puts it
abbrev pub start_parts : WriteOptions → Element → List ℕ → List (List ℕ)
start_parts o name id =
    codes "<" ∷ element_name name ∷ attributes_then (id_attributes o id) [] ∷ attributes_then (namespaces (quote_of o) name) [] ∷ []

pub start_whole : (o : WriteOptions) (name : Element) (id : List ℕ) → joined (start_parts o name id) ≡ start_tag o name id
start_whole o name id =
    let rest = attributes_then (namespaces (quote_of o) name) [] in
    ap (λ xs. codes "<" ++ (element_name name ++ (attributes_then (id_attributes o id) [] ++ xs))) (append-nil rest)
    ∙ ap (λ xs. codes "<" ++ (element_name name ++ xs))
    (sym (attributes_rest (id_attributes o id) rest) ∙ sym (attributes_join (id_attributes o id) (namespaces (quote_of o) name) []))
