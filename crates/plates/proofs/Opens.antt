-- The outcome of open, from what its parts ensure.
use Rattle.std.proofs.Common.{◌≡◌, ℕ, ◌+◌, Bool, true, List, ◌++◌, reverse, length, Ok, refl, ap, ◌∙◌, arith}
use Rattle.stores.specs.declared.Store.{Ghosts}
use Rattle.markup.specs.declared.pens.Pen.{Pen}
use Rattle.markup.specs.Pens.{all_fit, called}
use Rattle.markup.specs.State.{state}
use Rattle.drawing.specs.declared.options.WriteOptions.{WriteOptions}
use Rattle.drawing.specs.declared.names.AId.TheVariants.{Id}
use Rattle.drawing.specs.declared.faults.Fault.TheVariants.{Setting, Moment}
use Rattle.drawing.specs.Faults.{outside_nodes}
use Rattle.checks.specs.Verdicts.{recast}
use Rattle.checks.specs.Ids.{id_in}
use Rattle.checks.specs.Settings.{settings_stand}
use Rattle.plates.specs.declared.elements.Element.{Element}
use Rattle.plates.specs.declared.plates.Plate.{Plate}
use Rattle.plates.specs.Closing.{start_tag, finish, end_tags}
use Rattle.plates.specs.Steps.{opens, judged, may_open, required}
use Rattle.plates.specs.View.{view}
use Rattle.plates.proofs.Outcomes.{Outcome, outcome}

open_allowed : (names : List Element) (o : WriteOptions) (name : Element) (id : List ℕ) →
    settings_stand o ≡ true → may_open names ≡ true → id_in Id id ≡ Ok tt → judged names (opens o name id) ≡ Ok tt
open_allowed names o name id a b c =
    ap (λ z. required z Setting (required (may_open names) Moment (recast outside_nodes (id_in Id id)))) a
    ∙ ap (λ z. required z Moment (recast outside_nodes (id_in Id id))) b
    ∙ ap (recast outside_nodes) c

pub open_outcome : (b ok : Bool) {S : Type 0} (store : Ghosts S) (p : Plate S) (o : WriteOptions) (name : Element) (id : List ℕ) (size : ℕ) (left : Pen S) →
    settings_stand o ≡ true → may_open (view store p).names ≡ true → id_in Id id ≡ Ok tt → size ≡ length (end_tags (reverse p.names.items)) →
    b ≡ ok → ok ≡ all_fit (state store p.pen) (finish p.stage ++ start_tag o name id) (2 + size) →
    state store left ≡ called (state store p.pen) (finish p.stage ++ start_tag o name id) (2 + size) → Outcome b (view store p) (opens o name id) (state store left)
open_outcome b ok store p o name id size left settings moment named sized is told done =
    outcome b ok store p (opens o name id) (2 + size) _ left (open_allowed (view store p).names o name id settings moment named) (omega arith) refl is told done
