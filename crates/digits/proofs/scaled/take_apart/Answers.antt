use Rattle.std.proofs.Common.{arith}
use Rattle.std.proofs.lemmas.Float.{T_from_true}
use Rattle.digits.proofs.Values.{parts_of, no_nan}
use Rattle.digits.proofs.scaled.take_apart.Goals as goal

pub float_to_bits-bits : goal.float_to_bits-bits
float_to_bits-bits c = no_nan c.args.x c.requires.small

pub overflow_sub-result : goal.overflow_sub-result
overflow_sub-result c = let p = parts_of c.args.x (T_from_true _ c.well_formed.0.1) c.requires.small c.requires.large in let h = p.above in omega arith

pub invariant_of-result : goal.invariant_of-result
invariant_of-result c = let p = parts_of c.args.x (T_from_true _ c.well_formed.0.1) c.requires.small c.requires.large in record { short = p.short; above = p.above; below = p.below }

pub returns : goal.returns
returns c = parts_of c.args.x (T_from_true _ c.well_formed.0.1) c.requires.small c.requires.large
