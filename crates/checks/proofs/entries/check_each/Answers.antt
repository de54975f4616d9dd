use Rattle.std.proofs.Common.{rules}
use Rattle.checks.proofs.Loops.{each_again, each_exit, each_all}
use Rattle.checks.proofs.entries.check_each.Goals as goal

pub returns-in_err-check : goal.returns-in_err-check
returns-in_err-check g c = λ rule fields p.
    each_exit rule fields _ _ _ c.check.result c.from_residual.result _ (c.loop-item.invariant rule fields p)
    (p _ _ (record { shown = _; shows = c.item-item.is; says = record { met = c.check.ensures } })) c.loop-item-test.true c.in_err-check.was (search rules)

pub loop-item-preserved : goal.loop-item-preserved
loop-item-preserved g c = λ rule fields p.
    each_again rule fields _ _ _ c.check.result (c.loop-item.invariant rule fields p)
    (p _ _ (record { shown = _; shows = c.item-item.is; says = record { met = c.check.ensures } })) c.loop-item-test.true c.in_ok-check.was

pub returns : goal.returns
returns g c = λ rule fields p. search (rules, each_all)
