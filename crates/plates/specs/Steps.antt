-- One call on a plate: which rule refuses it, else the bytes it adds and the state it leaves.
use Rattle.std.specs.Prelude.{ℕ, ◌+◌, Bool, true, false, cond, not, ◌&&◌, List, [], ◌∷◌, ◌++◌, length, Ok, Err, nat_le, nat_lt}
use Rattle.drawing.specs.declared.options.WriteOptions.{WriteOptions}
use Rattle.drawing.specs.declared.names.AId.TheVariants.{Id}
use Rattle.drawing.specs.declared.faults.Fault.{Fault}
use Rattle.drawing.specs.declared.faults.Fault.TheVariants.{Setting, Moment, Full}
use Rattle.drawing.specs.Faults.{outside_nodes}
use Rattle.checks.specs.Verdicts.{Verdict, recast}
use Rattle.checks.specs.Ids.{id_in}
use Rattle.checks.specs.Settings.{settings_stand}
use Rattle.plates.specs.declared.elements.Element.{Element}
use Rattle.plates.specs.declared.elements.Stage.{Stage}
use Rattle.plates.specs.declared.elements.Stage.TheVariants.{Fresh, Body}
use Rattle.plates.specs.Elements.{is_gradient}
use Rattle.plates.specs.Closing.{start_tag, finish, ending, closing_marks}

-- a plate by what it holds: the bytes, how many may be held, the open elements innermost first, and the innermost's stage
pub record PlateState : Type 0 where
  pub held : List ℕ
  pub capacity : ℕ
  pub names : List Element
  pub stage : Stage

abbrev pub plate : List ℕ → ℕ → List Element → Stage → PlateState
plate held capacity names stage = record { held = held; capacity = capacity; names = names; stage = stage }

-- a new plate
abbrev pub blank : ℕ → PlateState
blank capacity = plate [] capacity [] Body

-- a call, with what its references point to
pub data Act : Type 0 where
  opens : WriteOptions → Element → List ℕ → Act
  closes : Act

-- The rules but the last.

abbrev pub in_gradient : List Element → Bool
in_gradient [] = false
in_gradient (name ∷ names) = is_gradient name

-- fewer than 32 elements are open, and the innermost is no gradient
abbrev pub may_open : List Element → Bool
may_open names = nat_lt (length names) 32 && not (in_gradient names)

abbrev pub may_close : List Element → Bool
may_close [] = false
may_close (name ∷ names) = true

-- a condition, or the fault of one that fails; then the next rule
abbrev pub required : Bool → Fault → Verdict Fault → Verdict Fault
required holds fault next-rule = cond holds next-rule (Err fault)

abbrev pub judged : List Element → Act → Verdict Fault
judged names (opens o name id) = required (settings_stand o) Setting (required (may_open names) Moment (recast outside_nodes (id_in Id id)))
judged names closes = required (may_close names) Moment (Ok tt)

-- What an accepted call leaves.

abbrev pub added : List Element → Stage → Act → List ℕ
added names stage (opens o name id) = finish stage ++ start_tag o name id
added [] stage closes = []
added (name ∷ names) stage closes = ending stage name

abbrev pub names_after : List Element → Act → List Element
names_after names (opens o name id) = name ∷ names
names_after [] closes = []
names_after (name ∷ names) closes = names

abbrev pub stage_after : Act → Stage
stage_after (opens o name id) = Fresh
stage_after closes = Body

abbrev pub grown : PlateState → Act → PlateState
grown s act = plate (s.held ++ added s.names s.stage act) s.capacity (names_after s.names act) (stage_after act)

-- the bytes held and the closing marks owed do not exceed the size
abbrev pub roomy : PlateState → Bool
roomy s = nat_le (length s.held + length (closing_marks s.stage s.names)) s.capacity

-- One call: its answer, and the plate after it.

abbrev pub answered : Verdict Fault → PlateState → Verdict Fault
answered (Err fault) s = Err fault
answered (Ok _) s = required (roomy s) Full (Ok tt)

abbrev pub answer : PlateState → Act → Verdict Fault
answer s act = answered (judged s.names act) (grown s act)

abbrev pub taken : Verdict Fault → PlateState → PlateState → PlateState
taken (Err fault) before after = before
taken (Ok _) before after = after

abbrev pub next : PlateState → Act → PlateState
next s act = taken (answer s act) s (grown s act)

-- Calls one after the other.

abbrev pub runs : PlateState → List Act → PlateState
runs s [] = s
runs s (act ∷ acts) = runs (next s act) acts

abbrev pub answers : PlateState → List Act → List (Verdict Fault)
answers s [] = []
answers s (act ∷ acts) = answer s act ∷ answers (next s act) acts
