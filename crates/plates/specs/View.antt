use Rattle.std.specs.Prelude.{◌≡◌, reverse, Ok, Err}
use Rattle.stores.specs.declared.Store.{Ghosts}
use Rattle.plates.specs.declared.plates.Plate.{Plate}
use Rattle.drawing.specs.declared.faults.Fault.{Fault}
use Rattle.checks.specs.Verdicts.{Verdict}
use Rattle.plates.specs.Steps.{PlateState, plate}

-- a plate's state, by what its store means
abbrev pub view : {S : Type 0} → Ghosts S → Plate S → PlateState
view store p = plate (store.held p.pen.store) (store.capacity p.pen.store) (reverse p.names.items) p.stage

-- a refused call leaves every other field as it was, also what the state does not show
abbrev pub Unaltered : {S : Type 0} → Plate S → Plate S → Verdict Fault → Type 0
Unaltered before after (Ok _) = Unit {0}
Unaltered before after (Err fault) = (after.names ≡ before.names) × (after.stage ≡ before.stage) × (after.pen.lost ≡ before.pen.lost)
