use Rattle.std.proofs.Common.{length}
use Rattle.scripts.specs.Cursors.{left}
use Rattle.mapplate.proofs.statements.options_statement.Given as goal

abbrev pub decreases-loop-name : goal.decreases-loop-name
decreases-loop-name l = length (left l.words)
