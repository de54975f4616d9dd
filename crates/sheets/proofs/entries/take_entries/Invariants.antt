use Rattle.std.proofs.Common.{length}
use Rattle.scripts.specs.Cursors.{left}
use Rattle.sheets.proofs.entries.take_entries.Given as goal

abbrev pub decreases-loop-entries : goal.decreases-loop-entries
decreases-loop-entries g l = length (left l.words)
