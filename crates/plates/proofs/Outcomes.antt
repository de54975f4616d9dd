-- What a call does, from what its writing on the pen ensures.
use Rattle.std.proofs.Common.{◌≡◌, ℕ, ◌+◌, Bool, true, false, cond, leb, List, ◌++◌, length, Ok, Err, sym, ap, ap₂, ◌∙◌}
use Rattle.stores.specs.declared.Store.{Ghosts}
use Rattle.markup.specs.declared.pens.Pen.{Pen}
use Rattle.markup.specs.Pens.{PenState, pen, all_fit, called}
use Rattle.markup.specs.State.{state}
use Rattle.drawing.specs.declared.faults.Fault.{Fault}
use Rattle.drawing.specs.declared.faults.Fault.TheVariants.{Full}
use Rattle.plates.specs.declared.elements.Element.{Element}
use Rattle.plates.specs.declared.plates.Plate.{Plate}
use Rattle.plates.specs.Closing.{closing_marks}
use Rattle.plates.specs.Steps.{PlateState, plate, Act, judged, added, names_after, stage_after, grown, roomy, required, answered, answer, taken, next}
use Rattle.plates.specs.View.{view}

-- a rule refuses it
pub refused : (s : PlateState) (act : Act) (fault : Fault) → judged s.names act ≡ Err fault → (answer s act ≡ Err fault) × (next s act ≡ s)
refused s act fault e =
    (ap (λ z. answered z (grown s act)) e, ap (λ z. taken (answered z (grown s act)) s (grown s act)) e)

-- No rule refuses the call: it fitted and was kept, or it did not and was cut back.

pub record Kept (s : PlateState) (act : Act) (left : PenState) : Type 0 where
  pub told : Ok tt ≡ answer s act
  pub done : (names : List Element) → names ≡ names_after s.names act → plate left.held left.capacity names (stage_after act) ≡ next s act
  pub clean : left.lost ≡ false

pub record CutBack (s : PlateState) (act : Act) (left : PenState) : Type 0 where
  pub told : Err Full ≡ answer s act
  pub done : plate left.held left.capacity s.names s.stage ≡ next s act
  pub clean : left.lost ≡ false

-- the two of them, by what the pen told
abbrev pub Outcome : Bool → PlateState → Act → PenState → Type 0
Outcome true s act left = Kept s act left
Outcome false s act left = CutBack s act left

abbrev writing : PlateState → PenState
writing s = pen s.held s.capacity false

of_state : (b : Bool) (s : PlateState) (act : Act) (owed : ℕ) (left : PenState) → judged s.names act ≡ Ok tt →
    owed ≡ length (closing_marks (stage_after act) (names_after s.names act)) →
    b ≡ all_fit (writing s) (added s.names s.stage act) owed → left ≡ called (writing s) (added s.names s.stage act) owed → Outcome b s act left
of_state b s act owed left judge owes told done = go b told
  where
    fit : (b : Bool) → b ≡ all_fit (writing s) (added s.names s.stage act) owed → roomy (grown s act) ≡ b
    fit b e = ap (λ n. leb (length (s.held ++ added s.names s.stage act) + n) s.capacity) (sym owes) ∙ sym e

    said : (b : Bool) → b ≡ all_fit (writing s) (added s.names s.stage act) owed → answer s act ≡ required b Full (Ok tt)
    said b e = ap (λ z. answered z (grown s act)) judge ∙ ap (λ z. required z Full (Ok tt)) (fit b e)

    leaves : (b : Bool) → b ≡ all_fit (writing s) (added s.names s.stage act) owed → left ≡ pen (cond b (s.held ++ added s.names s.stage act) s.held) s.capacity false
    leaves b e = done ∙ ap (λ z. pen (cond z (s.held ++ added s.names s.stage act) s.held) s.capacity false) (sym e)

    go : (b : Bool) → b ≡ all_fit (writing s) (added s.names s.stage act) owed → Outcome b s act left
    go true e =
        let l = leaves true e in
        record {
          told = sym (said true e);
          done = λ names f. ap₂ (λ (z : PenState) n. plate z.held z.capacity n (stage_after act)) l f ∙ sym (ap (λ z. taken z s (grown s act)) (said true e));
          clean = ap (λ (z : PenState). z.lost) l;
        }
    go false e =
        let l = leaves false e in
        record {
          told = sym (said false e);
          done = ap (λ (z : PenState). plate z.held z.capacity s.names s.stage) l ∙ sym (ap (λ z. taken z s (grown s act)) (said false e));
          clean = ap (λ (z : PenState). z.lost) l;
        }

-- the same, from what a call on the pen ensures of its bytes
pub outcome : (b ok : Bool) {S : Type 0} (store : Ghosts S) (p : Plate S) (act : Act) (owed : ℕ) (bytes : List ℕ) (left : Pen S) →
    judged (view store p).names act ≡ Ok tt → owed ≡ length (closing_marks (stage_after act) (names_after (view store p).names act)) → added (view store p).names p.stage act ≡ bytes →
    b ≡ ok → ok ≡ all_fit (state store p.pen) bytes owed → state store left ≡ called (state store p.pen) bytes owed → Outcome b (view store p) act (state store left)
outcome b ok store p act owed bytes left judge owes adds is told done =
    let s = view store p in
    let clean : state store p.pen ≡ writing s = ap (pen s.held s.capacity) p.clean in
    of_state b s act owed (state store left) judge owes
    (is ∙ told ∙ ap₂ (λ z x. all_fit z x owed) clean (sym adds))
    (done ∙ ap₂ (λ z x. called z x owed) clean (sym adds))
