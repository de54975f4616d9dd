use Rattle.std.proofs.Common.{◌*◌, ◌++◌, drop, ap, ◌∙◌, sym, arith, take-append-drop}
use Rattle.stores.proofs.Rolled.{rolled_records}
use Rattle.stores.proofs.rolls.Roll.image.Goals as goal

pub returns-clause-image : goal.returns-clause-image
returns-clause-image c =
    let r = c.self.inside in
    let rest = drop (64 * r.records) r.buffer.now in
    rw (← c.self.view_is) (sym (take-append-drop (64 * r.records) r.buffer.now) ∙ ap (λ xs. xs ++ rest) (rolled_records r.records r.len r.buffer.now c.self.invariant))

pub returns-clause-sized : goal.returns-clause-sized
returns-clause-sized c = rw (← c.self.view_is) (omega arith)
