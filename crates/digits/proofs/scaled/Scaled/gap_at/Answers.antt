use Rattle.std.proofs.Common.{◌^◌, ◌≤◌, ◌*◌, mul-le-mul, arith, lit<, pow_mono}
use native.Mathlib.Nat.{pow-le-pow_right}
use Rattle.digits.proofs.scaled.Scaled.gap_at.Goals as goal

pub returns-clause-small : goal.returns-clause-small
returns-clause-small c =
    let a : c.saturating_sub.result ≤ 17 = omega arith in
    let b : c.saturating_sub-2.result ≤ 16 = omega arith in
    let p : 2 ^ c.saturating_sub.result * 10 ^ c.saturating_sub-2.result ≤ 2 ^ 17 * 10 ^ 16 = mul-le-mul (pow_mono a) (pow-le-pow_right {n = 10} (lit< tt) b) in
    rw (c.pow.ensures, c.pow-2.ensures) (omega arith)
