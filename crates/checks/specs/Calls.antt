-- What the checks of a whole call answer.
use Rattle.std.specs.Prelude.{ℕ, ◌-◌, cond, Some, None, Err}
use Rattle.drawing.specs.declared.faults.NodeFault.{NodeFault}
use Rattle.drawing.specs.declared.faults.Fault.{Fault}
use Rattle.drawing.specs.declared.faults.Fault.TheVariants as fault
use Rattle.drawing.specs.Faults.{in_node, of_node, outside_nodes}
use Rattle.drawing.specs.declared.tables.Drawing.{Drawing}
use Rattle.drawing.specs.Tables.{node_at}
use Rattle.checks.specs.declared.entries.Rule.TheVariants.{Number}
use Rattle.checks.specs.Verdicts.{Verdict, recast, found_in, count_up}
use Rattle.checks.specs.Entries.{first_at, by_rules}
use Rattle.checks.specs.Rows.{node_fields, gradient_fields}
use Rattle.checks.specs.Tables.{table_stands, gradient_stands}

-- the rules for values at one node
unfoldable pub node_verdict : Drawing → ℕ → Verdict NodeFault
node_verdict d i = recast in_node (found_in i (by_rules (node_fields d (node_at d i))))

-- at the nodes from `from` up to but without `to`, in table order
abbrev pub nodes_verdict : Drawing → ℕ → ℕ → Verdict NodeFault
nodes_verdict d from to = count_up (node_verdict d) (to - from) from

-- the table rule at the node that is drawn, then the values of it and its descendants
abbrev pub draw_verdict : Drawing → ℕ → Verdict Fault
draw_verdict d node =
    cond (table_stands d node) (recast of_node (nodes_verdict d node (node_at d node).end)) (Err (fault.Table (Some node)))

-- the table rule at a gradient row, then its numbers
abbrev pub gradient_verdict : Drawing → ℕ → Verdict Fault
gradient_verdict d row =
    cond (gradient_stands d row) (recast outside_nodes (first_at Number (gradient_fields d row))) (Err (fault.Table None))
