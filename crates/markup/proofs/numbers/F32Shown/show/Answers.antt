use Rattle.std.proofs.Common.{ap}
use Rattle.markup.specs.Numbers.{text_or_none, shown_bare}
use Rattle.markup.proofs.numbers.F32Shown.show.Goals as goal

pub returns-clause-wrote : goal.returns-clause-wrote
unfolding shown_bare
returns-clause-wrote g c = cc (ap text_or_none c.bare.ensures)
