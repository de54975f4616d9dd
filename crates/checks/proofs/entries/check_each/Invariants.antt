use Rattle.std.proofs.Common.{◌≡◌, drop}
use Rattle.std.specs.Fn.{FnReturnsAt}
use Rattle.checks.specs.declared.entries.Rule.{Rule}
use Rattle.checks.specs.Entries.{Fields, first_at, each}
use Rattle.checks.specs.Meant.{ChecksFields}
use Rattle.checks.proofs.entries.check_each.Given as goal

abbrev pub invariant-loop-item : goal.invariant-loop-item
invariant-loop-item g l =
    (rule : Rule) (fields : g.row.T.Denot → Fields) → ChecksFields (FnReturnsAt g.F.Fn l.check) rule fields
    → first_at rule (each fields (drop l.item-index l.items)) ≡ first_at rule (each fields l.items)
