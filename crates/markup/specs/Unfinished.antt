-- A forest that is being written: what stands outside every open element, and the open elements, innermost first. An
-- element's start tag is unfinished until the element has content, so that attributes can still be added to it.
use Rattle.std.specs.Prelude.{ℕ, Bool, true, false, cond, List, [], ◌∷◌, ◌++◌, map, codes}
use Rattle.std.proofs.Math.Utf8.{encodes}
use Rattle.markup.specs.Attributes.{Attribute, attributes_then}
use Rattle.markup.specs.Tags.{begun, end_tag}
use Rattle.markup.specs.Characters.{Name, Distinct}
use Rattle.markup.specs.Trees.{empty, element, Written, is_empty, followed_by, attribute_names, LegalAttributes, WellFormed}
use Rattle.markup.specs.Renderings.{render, encoded, encoded_attribute}

pub record OpenElement : Type 0 where
  pub name : List ℕ
  pub attributes : List Attribute
  pub children : Written

pub record Unfinished : Type 0 where
  pub outside : Written
  pub stack : List OpenElement

abbrev pub open_element : List ℕ → List Attribute → Written → OpenElement
open_element name attributes children = record { name = name; attributes = attributes; children = children }

abbrev pub unfinished : Written → List OpenElement → Unfinished
unfinished outside stack = record { outside = outside; stack = stack }

-- What the plate keeps of it: the names of the open elements, and whether the innermost start tag is unfinished

abbrev pub open_names : List OpenElement → List (List ℕ)
open_names [] = []
open_names (e ∷ around) = e.name ∷ open_names around

abbrev pub in_start_tag : List OpenElement → Bool
in_start_tag [] = false
in_start_tag (e ∷ around) = is_empty e.children

-- The bytes so far

-- `<name` and attributes, without the end of the tag
abbrev pub start_tag : List ℕ → List Attribute → List ℕ
start_tag name attributes = begun name ++ attributes_then attributes []

-- what stands between a start tag and the content after it
abbrev pub before_content : Bool → List ℕ
before_content true = codes ">"
before_content false = []

-- open elements inside which more content stands
abbrev pub outer : List OpenElement → List ℕ
outer [] = []
outer (e ∷ around) = outer around ++ (start_tag e.name e.attributes ++ (codes ">" ++ render e.children []))

-- all open elements: the innermost one's tag ends with its first content
abbrev pub content_so_far : Written → List ℕ
content_so_far children = cond (is_empty children) [] (codes ">" ++ render children [])

abbrev pub open_so_far : List OpenElement → List ℕ
open_so_far [] = []
open_so_far (e ∷ around) = outer around ++ (start_tag e.name e.attributes ++ content_so_far e.children)

abbrev pub so_far : Unfinished → List ℕ
so_far u = render u.outside [] ++ open_so_far u.stack

-- The closing marks: what would end every open element. The flag says whether the innermost start tag is unfinished.

abbrev pub end_mark : Bool → List ℕ → List ℕ
end_mark true name = codes "/>"
end_mark false name = end_tag name

abbrev pub end_tags : List (List ℕ) → List ℕ
end_tags [] = []
end_tags (name ∷ names) = end_tag name ++ end_tags names

abbrev pub closing_marks : Bool → List (List ℕ) → List ℕ
closing_marks unended [] = []
closing_marks unended (name ∷ names) = end_mark unended name ++ end_tags names

abbrev pub owed : Unfinished → List ℕ
owed u = closing_marks (in_start_tag u.stack) (open_names u.stack)

-- What can be done: begin an element, give the innermost one more attributes, add content at its end, end it

abbrev pub begin : List ℕ → List Attribute → Unfinished → Unfinished
begin name attributes u = unfinished u.outside (open_element name attributes empty ∷ u.stack)

abbrev pub give_to : List Attribute → List OpenElement → List OpenElement
give_to given [] = []
give_to given (e ∷ around) = open_element e.name (e.attributes ++ given) e.children ∷ around

abbrev pub give : List Attribute → Unfinished → Unfinished
give given u = unfinished u.outside (give_to given u.stack)

-- at the end of the innermost, or after all that is finished where nothing is open
abbrev pub add_at : Written → Written → List OpenElement → Unfinished
add_at content outside [] = unfinished (followed_by outside content) []
add_at content outside (e ∷ around) = unfinished outside (open_element e.name e.attributes (followed_by e.children content) ∷ around)

abbrev pub add : Written → Unfinished → Unfinished
add content u = add_at content u.outside u.stack

abbrev pub ended : OpenElement → Written
ended e = element e.name e.attributes e.children empty

abbrev pub end_at : Written → List OpenElement → Unfinished
end_at outside [] = unfinished outside []
end_at outside (e ∷ around) = add_at (ended e) outside around

abbrev pub end_innermost : Unfinished → Unfinished
end_innermost u = end_at u.outside u.stack

-- The forest with every open element ended

abbrev pub all_ended : List OpenElement → Written → Written
all_ended [] inside = inside
all_ended (e ∷ around) inside = all_ended around (element e.name e.attributes (followed_by e.children inside) empty)

abbrev pub finished : Unfinished → Written
finished u = followed_by u.outside (all_ended u.stack empty)

-- When all of it may be written

abbrev pub LegalOpen : OpenElement → Type 0
LegalOpen e = Name e.name × LegalAttributes e.attributes × Distinct (attribute_names e.attributes) × WellFormed e.children

abbrev pub LegalStack : List OpenElement → Type 0
LegalStack [] = Unit {0}
LegalStack (e ∷ around) = LegalOpen e × LegalStack around

abbrev pub Legal : Unfinished → Type 0
Legal u = WellFormed u.outside × LegalStack u.stack

-- the same with bytes in place of characters
abbrev pub encoded_open : OpenElement → OpenElement
encoded_open e = open_element (encodes e.name) (map encoded_attribute e.attributes) (encoded e.children)

abbrev pub encoded_unfinished : Unfinished → Unfinished
encoded_unfinished u = unfinished (encoded u.outside) (map encoded_open u.stack)
