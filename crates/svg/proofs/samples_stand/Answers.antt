use Rattle.svg.proofs.Samples.{samples_stand}
use Rattle.svg.proofs.samples_stand.Goals as goal

pub returns : goal.returns
returns c = samples_stand
