use Rattle.markup.proofs.Samples.{samples}
use Rattle.markup.proofs.readings.samples_stand.Goals as goal

pub returns : goal.returns
returns c = samples
