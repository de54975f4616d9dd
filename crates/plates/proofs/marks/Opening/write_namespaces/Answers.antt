use Rattle.std.proofs.Common.{◌≡◌, [], ◌∷◌, codes, rules, sym, ap, ◌∙◌}
use Rattle.markup.specs.Attributes.{attribute, attributes_then}
use Rattle.markup.specs.Pens.{after}
use Rattle.markup.specs.State.{state}
use Rattle.plates.specs.declared.elements.Element.TheVariants.{Svg}
use Rattle.plates.specs.Elements.{quote_of, namespaces}
use Rattle.markup.proofs.Chains.{after_after}
use Rattle.plates.proofs.Tags.{two_attributes}
use Rattle.plates.proofs.marks.Opening.write_namespaces.Goals as goal

pub returns-then-eq : goal.returns-then-eq
returns-then-eq g c =
    let q = quote_of c.args.self.now.options.now in
    let svg = attribute q (codes "xmlns") (codes "http://www.w3.org/2000/svg") in
    let xlink = attribute q (codes "xmlns:xlink") (codes "http://www.w3.org/1999/xlink") in
    let before = state g.S.Store c.args.pen.now in
    let is : c.args.self.now.element ≡ Svg = search rules in
    let one : state g.S.Store c.write_attribute.new.pen ≡ after before (attributes_then (svg ∷ []) []) = search rules in
    let two : state g.S.Store c.write_attribute-then-eq.new.pen ≡ after (after before (attributes_then (svg ∷ []) [])) (attributes_then (xlink ∷ []) []) = search rules in
    two ∙ after_after before (attributes_then (svg ∷ []) []) (attributes_then (xlink ∷ []) []) ∙ ap (after before) (sym (two_attributes svg xlink)) ∙ ap (λ name. after before (attributes_then (namespaces q name) [])) (sym is)
