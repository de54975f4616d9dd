-- The element list of a plate: what the accepted calls have made, from their arguments and answers alone. And what the
-- plate's bytes read as.
use Rattle.std.specs.Prelude.{◌≡◌, ℕ, List, [], ◌∷◌, ◌++◌, length, Ok, Err}
use Rattle.drawing.specs.declared.faults.Fault.{Fault}
use Rattle.checks.specs.Verdicts.{Verdict}
use Rattle.markup.specs.Trees.{empty, plain}
use Rattle.markup.specs.Renderings.{render}
use Rattle.markup.specs.Readings.{ReadsOnlyAs}
use Rattle.markup.specs.Unfinished.{Unfinished, unfinished, begin, end_innermost, finished}
use Rattle.plates.specs.Elements.{element_name, opening_attributes}
use Rattle.plates.specs.Closing.{closing_marks}
use Rattle.plates.specs.Steps.{Act, opens, closes, answers, runs, blank}
use Rattle.plates.specs.Promise.{closed}

abbrev pub accepted : Unfinished → Act → Unfinished
accepted u (opens o name id) = begin (element_name name) (opening_attributes o name id) u
accepted u closes = end_innermost u

-- a refused call makes nothing
abbrev pub after_call : Unfinished → Act → Verdict Fault → Unfinished
after_call u act (Ok _) = accepted u act
after_call u act (Err fault) = u

abbrev pub after_calls : Unfinished → List Act → List (Verdict Fault) → Unfinished
after_calls u [] verdicts = u
after_calls u (act ∷ acts) [] = u
after_calls u (act ∷ acts) (verdict ∷ verdicts) = after_calls (after_call u act verdict) acts verdicts

-- by calls on a new plate of a size
abbrev pub made_by : ℕ → List Act → Unfinished
made_by capacity acts = after_calls (unfinished empty []) acts (answers (blank capacity) acts)

pub record Reads (capacity : ℕ) (acts : List Act) : Type 0 where
  -- the bytes held, with the closing marks after them, are the rendering of the element list
  pub whole : (runs (blank capacity) acts).held ++ closing_marks (runs (blank capacity) acts).stage (runs (blank capacity) acts).names ≡ render (finished (made_by capacity acts)) []
  -- and once everything open is closed, what is held reads as that list and as nothing else
  pub reads : ReadsOnlyAs (closed (length (runs (blank capacity) acts).names) (runs (blank capacity) acts)).held (plain (finished (made_by capacity acts)))

abbrev pub ReadsAfterAll : Type 0
ReadsAfterAll = (capacity : ℕ) (acts : List Act) → Reads capacity acts
