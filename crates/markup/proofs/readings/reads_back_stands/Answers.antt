use Rattle.markup.proofs.LineEnds.{reads_back}
use Rattle.markup.proofs.readings.reads_back_stands.Goals as goal

pub returns : goal.returns
returns c = reads_back
