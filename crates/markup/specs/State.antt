use Rattle.stores.specs.declared.Store.{Ghosts}
use Rattle.markup.specs.declared.pens.Pen.{Pen}
use Rattle.markup.specs.Pens.{PenState, pen}

-- the state of a pen, by what its store means
abbrev pub state : {S : Type 0} → Ghosts S → Pen S → PenState
state store p = pen (store.held p.store) (store.capacity p.store) p.lost
