use Rattle.std.proofs.Common.{◌≡◌}
use Rattle.checks.specs.Calls.{nodes_verdict}
use Rattle.checks.proofs.calls.check_draw.Given as goal

abbrev pub invariant-loop-index : goal.invariant-loop-index
invariant-loop-index l = nodes_verdict l.drawing l.index l.index-end ≡ nodes_verdict l.drawing l.node l.index-end
