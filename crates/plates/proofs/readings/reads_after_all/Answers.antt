use Rattle.plates.proofs.Forests.{reads_after_all}
use Rattle.plates.proofs.readings.reads_after_all.Goals as goal

pub returns : goal.returns
returns c = reads_after_all
