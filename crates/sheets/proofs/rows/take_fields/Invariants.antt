use Rattle.std.proofs.Common.{◌≤◌, length}
use Rattle.scripts.specs.Cursors.{left}
use Rattle.sheets.proofs.rows.take_fields.Given as goal

abbrev pub invariant-loop-row : goal.invariant-loop-row
invariant-loop-row g l = length (left l.words) ≤ length (left l.fn.words)

abbrev pub decreases-loop-row : goal.decreases-loop-row
decreases-loop-row g l = length (left l.words)
