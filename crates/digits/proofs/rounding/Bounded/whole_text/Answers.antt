use Rattle.std.proofs.Common.{arith}
use Rattle.std.proofs.lemmas.Float.{T_from_true}
use Rattle.digits.proofs.Values.{no_nan}
use Rattle.digits.proofs.WholeParts.{whole_bound}
use Rattle.digits.proofs.rounding.Bounded.whole_text.Goals as goal

pub is_sign_negative-requires : goal.is_sign_negative-requires
is_sign_negative-requires c = no_nan c.args.self.value c.args.self.bounded

pub invariant_of-spelled : goal.invariant_of-spelled
invariant_of-spelled c =
    let b = whole_bound c.args.self.value (T_from_true _ c.well_formed.0.1.1.0.1) c.args.self.bounded in
    let e = c.whole_part-whole.ensures in
    record { below = omega arith; short = omega arith }
