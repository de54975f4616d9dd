use Rattle.std.proofs.Common.{Bool, not, T, sym, refl, ◌∙◌, subst}
use Rattle.scripts.proofs.Patterns.{pattern_is, pattern_nan}
use Rattle.scripts.proofs.floats.float_of_bits.Goals as goal

pub float_from_bits-result : goal.float_from_bits-result
float_from_bits-result c =
    subst (λ (b : Bool). T (not b)) (c.if-is_nan_pattern.ensures ∙ sym (pattern_is c.args.bits)) tt

pub returns-then-is_nan_pattern : goal.returns-then-is_nan_pattern
returns-then-is_nan_pattern c =
    pattern_nan 2143289344 refl ∙ sym (pattern_nan c.args.bits (sym c.if-is_nan_pattern.ensures))
