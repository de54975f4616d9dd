use Rattle.std.proofs.Common.{rules}
use Rattle.markup.proofs.Written.{escaped_two}
use Rattle.markup.proofs.references.IriShown.show.Goals as goal

pub returns-clause-wrote : goal.returns-clause-wrote
returns-clause-wrote g c = search (rules, escaped_two)
