use Rattle.std.proofs.Common.{arith}
use Rattle.stores.proofs.rolls.RollStore.size.Goals as goal

pub returns : goal.returns
returns c = rw (← c.self.view_is) (omega arith)
