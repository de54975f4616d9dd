use Rattle.std.proofs.Common.{◌≡◌, Bool, true, false, cond, ◌||◌, Some, None, refl, rules}
use Rattle.std.specs.Float.Ieee.{Float, le, lt, eq}
use Rattle.std.specs.declared.cmp.Ordering.TheVariants.{Less, Equal, Greater}
use Rattle.std.specs.Ordering.{partial_le, float_partial_cmp}
use Rattle.drawing.specs.Tables.{nought, one}
use Rattle.checks.proofs.numbers.is_in_range.Goals as goal

partial_le_is : (x y : Float) → partial_le float_partial_cmp x y ≡ le x y
unfolding le
partial_le_is x y = go (lt x y) (eq x y) (lt y x)
  where
    go : (a b c : Bool) → partial_le (λ _ _. cond a (Some Less) (cond b (Some Equal) (cond c (Some Greater) None))) x y ≡ (a || b)
    go true b c = refl
    go false true c = refl
    go false false true = refl
    go false false false = refl

pub returns-in-Fraction : goal.returns-in-Fraction
returns-in-Fraction c =
    let low = partial_le_is nought c.args.x in
    let high = partial_le_is c.args.x one in search rules
