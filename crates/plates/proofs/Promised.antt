-- Room for the closing marks is always kept, so close never lacks it.
use Rattle.std.proofs.Common.{◌≡◌, ℕ, zero, suc, ◌+◌, ◌<◌, ◌≤◌, Bool, true, false, List, [], ◌∷◌, ◌++◌, length, Ok, Err, sym, refl, ap, ◌∙◌, arith, length-append, le-leb, leb-true}
use Rattle.std.proofs.lemmas.List.{append-nil, append_assoc}
use Rattle.drawing.specs.declared.faults.Fault.{Fault}
use Rattle.drawing.specs.declared.faults.Fault.TheVariants.{Full}
use Rattle.checks.specs.Verdicts.{Verdict}
use Rattle.plates.specs.declared.elements.Element.{Element}
use Rattle.plates.specs.declared.elements.Stage.{Stage}
use Rattle.plates.specs.declared.elements.Stage.TheVariants.{Body}
use Rattle.plates.specs.Closing.{ending, end_tags, closing_marks}
use Rattle.plates.specs.Steps.{PlateState, plate, Act, closes, judged, grown, roomy, required, answered, answer, taken, next, runs, blank}
use Rattle.plates.specs.Promise.{closed, Closes, ClosesAfterAll}
use Rattle.plates.proofs.Stacks.{marks_body}

abbrev Fits : PlateState → Type 0
Fits s = length s.held + length (closing_marks s.stage s.names) ≤ s.capacity

-- an accepted call left room
room_left : (v : Verdict Fault) (s : PlateState) → answered v s ≡ Ok tt → roomy s ≡ true
room_left (Err fault) s e = let z : ◌≡◌ {A = ℕ} 0 1 = cc in absurd (omega arith)
room_left (Ok x) s e = kept (roomy s) e
  where
    kept : (b : Bool) → required b Full (Ok tt) ≡ Ok tt → b ≡ true
    kept true e = refl
    kept false e = let z : ◌≡◌ {A = ℕ} 0 1 = cc in absurd (omega arith)

next_fits : (s : PlateState) (act : Act) → Fits s → Fits (next s act)
next_fits s act f = go (answer s act) refl
  where
    go : (v : Verdict Fault) → answer s act ≡ v → Fits (taken v s (grown s act))
    go (Err fault) e = f
    go (Ok tt) e = leb-true _ _ (room_left (judged s.names act) (grown s act) e)

runs_fit : (s : PlateState) (acts : List Act) → Fits s → Fits (runs s acts)
runs_fit s [] f = f
runs_fit s (act ∷ acts) f = runs_fit (next s act) acts (next_fits s act f)

-- one close
close_fits : (h : List ℕ) (c : ℕ) (name : Element) (names : List Element) (stage : Stage) → Fits (plate h c (name ∷ names) stage) →
    length (h ++ ending stage name) + length (closing_marks Body names) ≤ c
close_fits h c name names stage f =
    let a = length-append h (ending stage name) in
    let b = length-append (ending stage name) (end_tags names) in
    let m = ap length (marks_body names) in
    omega arith

close_told : (h : List ℕ) (c : ℕ) (name : Element) (names : List Element) (stage : Stage) → Fits (plate h c (name ∷ names) stage) →
    answer (plate h c (name ∷ names) stage) closes ≡ Ok tt
close_told h c name names stage f = ap (λ z. required z Full (Ok tt)) (le-leb _ _ (close_fits h c name names stage f))

-- all of them, one after the other
all_close : (names : List Element) (h : List ℕ) (c : ℕ) (stage : Stage) → Fits (plate h c names stage) → Closes (plate h c names stage)
all_close [] h c stage f = record { each = λ k l. absurd (omega arith); last = refl; whole = sym (append-nil h) }
all_close (name ∷ names) h c stage f =
    let s = plate h c (name ∷ names) stage in
    let told = close_told h c name names stage f in
    let step : next s closes ≡ plate (h ++ ending stage name) c names Body = ap (λ z. taken z s (grown s closes)) told in
    let rest = all_close names (h ++ ending stage name) c Body (close_fits h c name names stage f) in
    record {
      each = λ k l. each_time k (told) step rest l;
      last = ap (λ z. answer (closed (length names) z) closes) step ∙ rest.last;
      whole =
          ap (λ z. (closed (length names) z).held) step
          ∙ rest.whole
          ∙ append_assoc h (ending stage name) (closing_marks Body names)
          ∙ ap (λ z. h ++ (ending stage name ++ z)) (marks_body names);
    }
  where
    each_time : (k : ℕ) → answer (plate h c (name ∷ names) stage) closes ≡ Ok tt → next (plate h c (name ∷ names) stage) closes ≡ plate (h ++ ending stage name) c names Body →
        Closes (plate (h ++ ending stage name) c names Body) → k < suc (length names) → answer (closed k (plate h c (name ∷ names) stage)) closes ≡ Ok tt
    each_time zero told step rest l = told
    each_time (suc k) told step rest l = ap (λ z. answer (closed k z) closes) step ∙ rest.each k (omega arith)

pub closes_after_all : ClosesAfterAll
closes_after_all capacity acts =
    let s = runs (blank capacity) acts in
    all_close s.names s.held s.capacity s.stage (runs_fit (blank capacity) acts (omega arith))
