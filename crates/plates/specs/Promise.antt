-- What a plate promises about close, after any calls whatever.
use Rattle.std.specs.Prelude.{◌≡◌, ℕ, zero, suc, ◌<◌, List, ◌++◌, length, Ok, Err}
use Rattle.drawing.specs.declared.faults.Fault.TheVariants.{Moment}
use Rattle.plates.specs.Closing.{closing_marks}
use Rattle.plates.specs.Steps.{PlateState, Act, closes, answer, next, runs, blank}

-- close, k times running
abbrev pub closed : ℕ → PlateState → PlateState
closed zero s = s
closed (suc k) s = closed k (next s closes)

pub record Closes (s : PlateState) : Type 0 where
  -- close succeeds as many times running as elements are open, and no further time
  pub each : (k : ℕ) → k < length s.names → answer (closed k s) closes ≡ Ok tt
  pub last : answer (closed (length s.names) s) closes ≡ Err Moment
  -- and adds exactly the closing marks
  pub whole : (closed (length s.names) s).held ≡ s.held ++ closing_marks s.stage s.names

-- in particular close never lacks room
abbrev pub ClosesAfterAll : Type 0
ClosesAfterAll = (capacity : ℕ) (acts : List Act) → Closes (runs (blank capacity) acts)
