use Rattle.std.proofs.Common.{◌≡◌, ◌-◌, ◌≤◌}
use Rattle.checks.specs.Tables.{range_stands}
use Rattle.checks.proofs.tables.+check_range.Given as goal

abbrev pub decreases-check_range : goal.decreases-check_range
decreases-check_range l = l.nodes.end - l.nodes.start

abbrev pub invariant-loop-index : goal.invariant-loop-index
invariant-loop-index l = (l.nodes.start ≤ l.index) × (range_stands l.drawing l.depth l.index l.nodes.end ≡ range_stands l.drawing l.depth l.nodes.start l.nodes.end)

abbrev pub decreases-loop-index : goal.decreases-loop-index
decreases-loop-index l = l.nodes.end - l.index
