-- `Near a b q Q`: q is a / b to the nearest whole number, a tie to the even one. The library's `closest` is just that.
use Rattle.std.proofs.Common.{◌≡◌, ℕ, suc, ◌+◌, ◌*◌, ◌%◌, ◌<◌, ◌≤◌, sym, ◌∙◌, mul-le-mul_right, suc-mul, arith}
use native.Mathlib.Nat.{eq_of_mul-eq-mul_right}
use lib.Ieee.Nearest.{closest}

-- q is a / b to the nearest, a tie to the even one; Q is q * b
pub record Near (a b q Q : ℕ) : Type 0 where
  pub low : 2 * Q ≤ 2 * a + b
  pub high : 2 * a ≤ 2 * Q + b
  pub tie_low : 2 * Q ≡ 2 * a + b → q % 2 ≡ 0
  pub tie_high : 2 * a ≡ 2 * Q + b → q % 2 ≡ 0

pub closest_near : (a b : ℕ) → 0 < b → Near a b (closest a b) (closest a b * b)
closest_near a b B = grind arith

-- there is one such number
not_below : (a b p q : ℕ) → 0 < b → Near a b p (p * b) → Near a b q (q * b) → p < q → ⊥
not_below a b p q B x y h =
    let s : suc p * b ≤ q * b = mul-le-mul_right b h in
    let t : suc p * b ≡ p * b + b = suc-mul p b in
    let z : q * b ≡ p * b + b = omega arith in
    let e : q ≡ suc p = eq_of_mul-eq-mul_right b B q (suc p) (z ∙ sym t) in
    let u : p % 2 ≡ 0 = x.tie_high (omega arith) in
    let v : q % 2 ≡ 0 = y.tie_low (omega arith) in
    omega arith

pub near_closest : (a b q : ℕ) → 0 < b → Near a b q (q * b) → closest a b ≡ q
near_closest a b q B y =
    let x = closest_near a b B in
    let f : closest a b < q → ⊥ = not_below a b (closest a b) q B x y in
    let g : q < closest a b → ⊥ = not_below a b q (closest a b) B y x in
    let f' : q ≤ closest a b = omega (arith, f) in
    omega arith
