use Rattle.std.proofs.Common.{rules}
use Rattle.markup.proofs.Written.{escaped_three}
use Rattle.markup.proofs.matrices.MatrixShown.show.Goals as goal

pub returns-clause-wrote : goal.returns-clause-wrote
returns-clause-wrote g c = search (rules, escaped_three)
