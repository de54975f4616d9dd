use Rattle.std.proofs.Common.{rules}
use Rattle.checks.proofs.Ranges.{turns}
use Rattle.checks.proofs.tables.+check_range.Goals as goal

pub returns-in_err-deeper : goal.returns-in_err-deeper
returns-in_err-deeper t c = search (rules, turns)

pub returns-in_err-check_range : goal.returns-in_err-check_range
returns-in_err-check_range t c = search (rules, turns)

pub loop-index-preserved-in_ok-check_range : goal.loop-index-preserved-in_ok-check_range
loop-index-preserved-in_ok-check_range t c = search (rules, turns)

pub loop-index-preserved : goal.loop-index-preserved
loop-index-preserved t c = search (rules, turns)

pub returns-then-index-nodes : goal.returns-then-index-nodes
returns-then-index-nodes t c = search (rules, turns)

pub returns-else-index-nodes : goal.returns-else-index-nodes
returns-else-index-nodes t c = search (rules, turns)
