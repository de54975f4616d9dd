use Rattle.std.proofs.Common.{◌≡◌, ◌-◌, ◌*◌, ◌/◌, arith}
use Rattle.stores.proofs.Rolled.{rolled_new}
use Rattle.stores.proofs.rolls.Roll.new.Goals as goal

pub invariant_of-result : goal.invariant_of-result
invariant_of-result c = ((rolled_new _ c.args.buffer.now _ (omega arith) c.clear.ensures).is.laid, tt)

pub invariant_of-result-2 : goal.invariant_of-result-2
invariant_of-result-2 c = (rolled_new _ c.args.buffer.now _ (omega arith) c.clear.ensures).is

pub returns : goal.returns
returns c =
    let new = rolled_new (c.reach_of-records.result / 64) c.args.buffer.now c.clear.new.buffer (omega arith) c.clear.ensures in
    let room : 63 * (c.reach_of-records.result / 64) - 0 ≡ 63 * (c.reach_of-records.result / 64) = omega arith in
    rw (← c.reach_of-records.ensures, new.reads, new.beyond, room)
