use Rattle.std.proofs.Common.{length}
use Rattle.scripts.specs.Cursors.{left}
use Rattle.sheets.proofs.rows.take_row.Given as goal

abbrev pub decreases-loop-name : goal.decreases-loop-name
decreases-loop-name g l = length (left l.words)
