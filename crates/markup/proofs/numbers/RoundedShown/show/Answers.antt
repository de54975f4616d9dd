use Rattle.std.proofs.Common.{ap}
use Rattle.markup.specs.Numbers.{text_or_none, shown_rounded}
use Rattle.markup.proofs.numbers.RoundedShown.show.Goals as goal

pub returns-clause-wrote : goal.returns-clause-wrote
unfolding shown_rounded
returns-clause-wrote g c = cc (ap text_or_none c.rounded.ensures)
