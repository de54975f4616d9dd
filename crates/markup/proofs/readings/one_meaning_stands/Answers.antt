use Rattle.markup.proofs.OneMeaning.{one_meaning}
use Rattle.markup.proofs.readings.one_meaning_stands.Goals as goal

pub returns : goal.returns
returns c = one_meaning
