use Rattle.checks.specs.Rows.{span_fields}
use Rattle.checks.proofs.entries.Checker.check_each_span.Goals as goal

pub returns : goal.returns
returns c = c.check_each.ensures _ (span_fields c.args.self.now.drawing.now c.args.text.now) (λ x r a. cc)
