use Rattle.std.proofs.Common.{rules}
use Rattle.markup.proofs.Written.{escaped_none}
use Rattle.markup.proofs.numbers.ResultNumeralNumberFaultShown.show.Goals as goal

pub returns-in_default-clause-wrote : goal.returns-in_default-clause-wrote
returns-in_default-clause-wrote g c = search (rules, escaped_none)
