use Rattle.std.proofs.Common.{◌≡◌, ◌+◌, ◌/◌, ◌^◌, pow-suc, add-one}
use native.Mathlib.Nat.{div-div-eq-div-mul}
use Rattle.digits.proofs.spelling.figures_before.Goals as goal

pub loop-place-preserved : goal.loop-place-preserved
loop-place-preserved c =
    let k = c.loop-place._place in
    let n = c.args.number in
    let d : n / 10 ^ k / 10 ≡ n / 10 ^ (k + 1) = rw (add-one, pow-suc) (div-div-eq-div-mul n (10 ^ k) 10) in
    record { text = rw add-one cc; rest = cc }
