use Rattle.plates.proofs.Promised.{closes_after_all}
use Rattle.plates.proofs.theorems.closes_after_all.Goals as goal

pub returns : goal.returns
returns c = closes_after_all
