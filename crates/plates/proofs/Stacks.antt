-- The names that are open, outermost first in the plate and innermost first in its state, and their end tags.
use Rattle.std.proofs.Common.{◌≡◌, ℕ, ◌+◌, ◌*◌, ◌≤◌, ◌⊎◌, List, [], ◌∷◌, ◌++◌, reverse, length, codes, refl, ap, ◌∙◌, inl, inr, arith, length-append}
use Rattle.std.specs.List.{sum_by}
use Rattle.std.proofs.lemmas.List.{reverse-append}
use Rattle.std.proofs.lemmas.List.Sums.{sum_by-append}
use Rattle.plates.specs.declared.elements.Element.{Element}
use Rattle.plates.specs.declared.elements.Element.TheVariants.{Svg, G, Defs, Mask, Pattern, LinearGradient, RadialGradient}
use Rattle.plates.specs.declared.elements.Stage.{Stage}
use Rattle.plates.specs.declared.elements.Stage.TheVariants.{Fresh, Filled, Body}
use Rattle.plates.specs.Elements.{element_name}
use Rattle.plates.specs.Closing.{end_tag, end_tags, closing_marks}

-- the last of the plate's names is the first of its state's
pub innermost : (names others : List Element) (x : Element) → names ≡ others ++ x ∷ [] → reverse names ≡ x ∷ reverse others
innermost names others x e = ap reverse e ∙ reverse-append others (x ∷ [])

-- The sizes of end tags.

name_short : (name : Element) → length (element_name name) ≤ 14
name_short Svg = omega arith
name_short G = omega arith
name_short Defs = omega arith
name_short Mask = omega arith
name_short Pattern = omega arith
name_short LinearGradient = omega arith
name_short RadialGradient = omega arith

end_tag_size : (name : Element) → length (end_tag name) ≡ length (element_name name) + 3
end_tag_size name = let e = length-append (element_name name) (codes ">") in omega arith

-- of several, in either order
abbrev pub tag_size : Element → ℕ
tag_size name = length (element_name name) + 3

tags_push : (names : List Element) (x : Element) → length (end_tags (names ++ x ∷ [])) ≡ length (end_tags names) + tag_size x
tags_push [] x = let e = end_tag_size x in let a = length-append (end_tag x) [] in omega arith
tags_push (name ∷ names) x =
    let e = tags_push names x in
    let a = length-append (end_tag name) (end_tags (names ++ x ∷ [])) in
    let b = length-append (end_tag name) (end_tags names) in
    omega arith

pub tags_size : (names : List Element) → sum_by tag_size names ≡ length (end_tags (reverse names))
tags_size [] = refl
tags_size (x ∷ names) =
    let e = ap (λ z. length (end_tags z)) (reverse-append (x ∷ []) names) in
    let r = tags_size names in
    let a = sum_by-append tag_size (x ∷ []) names in
    let p = tags_push (reverse names) x in
    omega arith

pub tags_small : (names : List Element) → sum_by tag_size names ≤ 17 * length names
tags_small [] = omega arith
tags_small (x ∷ names) = let r = tags_small names in let s = name_short x in let a = sum_by-append tag_size (x ∷ []) names in omega arith

-- where the innermost has content, and where its start tag is unfinished
pub marks_body : (names : List Element) → closing_marks Body names ≡ end_tags names
marks_body [] = refl
marks_body (name ∷ names) = refl

pub marks_tag : (stage : Stage) (names rest : List Element) (name : Element) → (stage ≡ Fresh) ⊎ (stage ≡ Filled) → names ≡ name ∷ rest →
    length (closing_marks stage names) ≡ 2 + length (end_tags rest)
marks_tag stage names rest name (inl e) f = rw (e, f) (omega arith)
marks_tag stage names rest name (inr e) f = rw (e, f) (omega arith)
