use Rattle.std.proofs.Common.{arith, length-take}
use Rattle.stores.proofs.Rolled.{rolled_records}
use Rattle.stores.proofs.rolls.Roll.records.Goals as goal

pub returns-clause-image : goal.returns-clause-image
returns-clause-image c =
    let r = c.self.inside in
    rw (← c.self.view_is) (rolled_records r.records r.len r.buffer.now c.self.invariant)

pub returns-clause-sized : goal.returns-clause-sized
returns-clause-sized c = rw (← c.self.view_is) (rw length-take (omega arith))
