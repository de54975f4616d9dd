use Rattle.markup.proofs.Legal.{reads_back_unfinished}
use Rattle.markup.proofs.readings.unfinished_reads_back_stands.Goals as goal

pub returns : goal.returns
returns c = reads_back_unfinished
