use Rattle.std.proofs.lemmas.Float.{T_from_true}
use Rattle.digits.proofs.WholeParts.{above_minus_one, limit_of, cut_of}
use Rattle.digits.proofs.rounding.Bounded.whole_part.Goals as goal

pub truncating_f32_to_u64-requires : goal.truncating_f32_to_u64-requires
truncating_f32_to_u64-requires c =
    rw c.abs.ensures.value
    record { lower_bound = above_minus_one c.args.self.value c.args.self.bounded; upper_bound = limit_of c.args.self.value (T_from_true _ c.well_formed.0.1.1.0.1) c.args.self.bounded }

pub returns : goal.returns
returns c = rw (c.truncating_f32_to_u64.ensures, c.abs.ensures.value) (cut_of c.args.self.value (T_from_true _ c.well_formed.0.1.1.0.1) c.args.self.bounded)
