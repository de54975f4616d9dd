use Rattle.std.proofs.Common.{sym}
use Rattle.std.proofs.lemmas.Float.{T_from_true}
use Rattle.digits.proofs.RoundedText.{other_domain}
use Rattle.digits.proofs.rounding.Bounded.rounded_text.Goals as goal

pub shortest-requires : goal.shortest-requires
shortest-requires c =
    rw c.rounded_value.ensures
    (other_domain c.args.self.value c.args.precision.decimals (T_from_true _ c.well_formed.0.1.1.0.1) c.args.self.bounded c.args.precision.in_range (sym c.if-counts_as_whole.ensures))
