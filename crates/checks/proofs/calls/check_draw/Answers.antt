use Rattle.std.proofs.Common.{sym, ◌∙◌, rules}
use Rattle.checks.specs.Calls.{node_verdict}
use Rattle.checks.proofs.Loops.{count_more, count_bad, count_all}
use Rattle.checks.proofs.calls.check_draw.Goals as goal

pub returns-in_err-check_node : goal.returns-in_err-check_node
returns-in_err-check_node c =
    let e = count_bad (node_verdict c.args.drawing.now) _ _ _ c.loop-index-test.true (sym c.check_node.ensures ∙ c.in_err-check_node.was) in
    search rules

pub loop-index-preserved : goal.loop-index-preserved
loop-index-preserved c = search (rules, count_more)

pub returns : goal.returns
returns c = search (rules, count_all)
