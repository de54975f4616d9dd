-- The errors of rounded operations over whole numbers, and how those of the three steps of rounding add up.
use Rattle.std.proofs.Common.{◌≡◌, ℕ, ◌+◌, ◌*◌, ◌^◌, ◌<◌, ◌≤◌, sym, ap, ◌∙◌, subst, inl, inr, mul_assoc, mul_comm, eq-zero-or-pos, mul-pos, mul-one, arith, lit<, pow_pos}
use lib.Ieee.Order.{drop, kept}
use Rattle.digits.proofs.Closest.{Near, closest_near}
use Rattle.digits.proofs.Between.{drops_ge}

-- g / 2 ^ 149 is the value nearest to n / (c * 2 ^ 149), within one part in 2 ^ 24 or half a unit; G is g * c
pub record Off (n c G : ℕ) : Type 0 where
  pub high : 2 ^ 24 * G ≤ 2 ^ 24 * n + n + 2 ^ 23 * c
  pub low : 2 ^ 24 * n ≤ 2 ^ 24 * G + n + 2 ^ 23 * c

-- u is the gap
off_big : (n c u Q q : ℕ) → Near n u q Q → 2 ^ 23 * u ≤ n → Off n c Q
off_big n c u Q q x h = grind arith

off_small : (n c Q q : ℕ) → Near n c q Q → Off n c Q
off_small n c Q q x = grind arith

pub off : (n c : ℕ) → 0 < c → Off n c (kept 24 n c * 2 ^ drop 24 n c * c)
off n c C =
    let k = drop 24 n c in
    let q = kept 24 n c in
    let u = c * 2 ^ k in
    let near : Near n u q (q * u) = closest_near n u (mul-pos C (pow_pos k)) in
    let e : q * u ≡ q * 2 ^ k * c = ap (λ (z : ℕ). q * z) (mul_comm c (2 ^ k)) ∙ sym (mul_assoc q (2 ^ k) c) in
    subst (λ (z : ℕ). Off n c z) e
    (elim (eq-zero-or-pos k) [
      | inl z ↦ off_small n c (q * u) q (subst (λ (w : ℕ). Near n w q (q * u)) (ap (λ (t : ℕ). c * 2 ^ t) z ∙ mul-one c) near)
      | inr p ↦ off_big n c u (q * u) q near (drops_ge 24 n c (lit< tt) C p)
    ])

-- a: x in units; b: x times T; g: that rounded; r: the nearest whole number, in units; s: that rounded; Q: the quotient q rounded, times T
pub near_enough_high : (b g r s Q T : ℕ) → T ≤ 10 ^ 8 → 2 ^ 149 ≤ r
    → Off b 1 g → 2 * r ≤ 2 * g + 2 ^ 149 → 2 * g ≤ 2 * r + 2 ^ 149 → Off r 1 s → Off s T Q
    → 2 ^ 21 * Q ≤ 2 ^ 21 * b + 2 ^ 20 * 2 ^ 149 + b
near_enough_high b g r s Q T t one x h l y z = grind arith

pub near_enough_low : (b g r s Q T : ℕ) → T ≤ 10 ^ 8 → 2 ^ 149 ≤ r
    → Off b 1 g → 2 * r ≤ 2 * g + 2 ^ 149 → 2 * g ≤ 2 * r + 2 ^ 149 → Off r 1 s → Off s T Q
    → 2 ^ 21 * b ≤ 2 ^ 21 * Q + 2 ^ 20 * 2 ^ 149 + b
near_enough_low b g r s Q T t one x h l y z = grind arith
