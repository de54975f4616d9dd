-- The outcome of close, where something is open.
use Rattle.std.proofs.Common.{◌≡◌, ℕ, ◌-◌, Bool, List, [], ◌∷◌, ◌++◌, reverse, length, take, sym, refl, ap, ap₂, ◌∙◌, arith, length-append}
use Rattle.std.proofs.lemmas.List.{take_at}
use Rattle.stores.specs.declared.Store.{Ghosts}
use Rattle.markup.specs.declared.pens.Pen.{Pen}
use Rattle.markup.specs.Pens.{all_fit, called}
use Rattle.markup.specs.State.{state}
use Rattle.plates.specs.declared.elements.Element.{Element}
use Rattle.plates.specs.declared.elements.Stage.TheVariants.{Body}
use Rattle.plates.specs.declared.plates.Plate.{Plate}
use Rattle.plates.specs.Closing.{ending, end_tags, closing_marks}
use Rattle.plates.specs.Steps.{closes, judged, added, names_after}
use Rattle.plates.specs.View.{view}
use Rattle.plates.proofs.Stacks.{innermost, marks_body}
use Rattle.plates.proofs.Outcomes.{Outcome, outcome}

close_names : (names rest : List Element) (name : Element) → names ≡ name ∷ rest → names_after names closes ≡ rest
close_names names rest name e = ap (λ z. names_after z closes) e

pub close_outcome : (b ok : Bool) {S : Type 0} (store : Ghosts S) (p : Plate S) (others : List Element) (name : Element) (size : ℕ) (left : Pen S) →
    p.names.items ≡ others ++ name ∷ [] → size ≡ length (end_tags (reverse others)) → b ≡ ok → ok ≡ all_fit (state store p.pen) (ending p.stage name) size →
    state store left ≡ called (state store p.pen) (ending p.stage name) size → Outcome b (view store p) closes (state store left)
close_outcome b ok store p others name size left split sized is told done =
    let names = reverse p.names.items in
    let rest = reverse others in
    let e = innermost p.names.items others name split in
    outcome b ok store p closes size (ending p.stage name) left
    (ap (λ z. judged z closes) e)
    (sized ∙ ap length (sym (marks_body rest) ∙ ap (closing_marks Body) (sym (close_names names rest name e))))
    (ap (λ z. added z p.stage closes) e)
    is told done

-- the names where the last is taken away
pub close_rest : (names others rest : List Element) (name : Element) → names ≡ others ++ name ∷ [] → rest ≡ take (length names - 1) names → reverse rest ≡ names_after (reverse names) closes
close_rest names others rest name split popped =
    let l : length names - 1 ≡ length others = rw split (simp length-append (omega arith)) in
    let t : rest ≡ others = popped ∙ ap₂ take l split ∙ take_at others (name ∷ []) (length others) refl in
    ap reverse t ∙ sym (close_names (reverse names) (reverse others) name (innermost names others name split))
