use Rattle.std.proofs.Common.{arith}
use Rattle.stores.proofs.Rolled.{rolled_byte}
use Rattle.stores.proofs.rolls.RollStore.byte.Goals as goal

pub returns-clause-byte : goal.returns-clause-byte
returns-clause-byte c =
    let r = c.self.inside in
    rw (← c.self.view_is) (omega arith, rolled_byte r.records r.len c.args.place _ r.buffer.now c.self.invariant (omega arith) c.spot.ensures.byte)
