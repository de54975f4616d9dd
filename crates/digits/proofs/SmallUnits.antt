-- The units found have at most nine digits: one place coarser, the step would be finer than a quarter of the gap, and some units would read back there.
use Rattle.std.proofs.Common.{◌≡◌, ℕ, zero, suc, ◌+◌, ◌-◌, ◌*◌, ◌/◌, ◌%◌, ◌^◌, ◌<◌, ◌≤◌, Bool, leb, sym, ap, ◌∙◌, inl, inr, le_of_lt, mul-le-mul_right, mul_assoc, mul_comm, div-lt_iff_lt-mul, mul-le-mul, le_of_mul-le-mul_right, mul_left_comm, arith, pow-add}
use lib.Ieee.{Float}
use Rattle.std.proofs.lemmas.Bool.{cases_lt}
use Rattle.digits.specs.Scaled.{Parts, within, units_at, gap, step}
use Rattle.digits.proofs.PlaceUnits.{found, fine, chosen_one, gap_pos, step_pos, significand_some, result_some}
use Rattle.digits.proofs.Fewest.{first}

join : (a b c d : ℕ) → a * b * (c * d) ≡ a * c * (b * d)
join a b c d = simp (mul_assoc, mul_left_comm)

ten_out : (a c b d : ℕ) → a * c * (10 * (b * d)) ≡ 10 * (a * b * (c * d))
ten_out a c b d = simp (mul_assoc, mul_left_comm)

ratio : (j i : ℕ) → gap j (suc i) * step j i ≡ 10 * (gap j i * step j (suc i))
ratio j i =
    let e : suc i - 12 + (12 - i) ≡ 1 + (i - 12 + (12 - suc i)) = omega arith in
    join (2 ^ (j - 149)) (10 ^ (suc i - 12)) (2 ^ (149 - j)) (10 ^ (12 - i))
    ∙ ap (λ (z : ℕ). 2 ^ (j - 149) * 2 ^ (149 - j) * z)
    (sym (pow-add 10 (suc i - 12) (12 - i)) ∙ ap (λ (z : ℕ). 10 ^ z) e ∙ pow-add 10 1 (i - 12 + (12 - suc i)) ∙ ap (λ (z : ℕ). 10 * z) (pow-add 10 (i - 12) (12 - suc i)))
    ∙ ten_out (2 ^ (j - 149)) (2 ^ (149 - j)) (10 ^ (i - 12)) (10 ^ (12 - suc i))

tight : (j i : ℕ) → gap j i ≤ 4 * step j i → gap j (suc i) ≤ 40 * step j (suc i)
tight j i h =
    let a : gap j i * step j (suc i) ≤ 4 * step j i * step j (suc i) = mul-le-mul_right (step j (suc i)) h in
    let b : 4 * step j i * step j (suc i) ≡ 4 * (step j (suc i) * step j i) = mul_assoc 4 (step j i) (step j (suc i)) ∙ ap (λ (z : ℕ). 4 * z) (mul_comm (step j i) (step j (suc i))) in
    let c = ratio j i in
    let d = mul_assoc 40 (step j (suc i)) (step j i) in
    let g : gap j (suc i) * step j i ≤ 40 * step j (suc i) * step j i = omega arith in
    le_of_mul-le-mul_right g (step_pos j i)

pub small_units : (x : Float) (s : Bool) (M j n i : ℕ) → Parts x s M j → n ≡ units_at M (gap j i) (step j i) → (n ≡ 0 → i ≡ 28)
    → ((k : ℕ) → k < i → units_at M (gap j k) (step j k) ≡ 0) → n < 10 ^ 9
small_units x s M j n zero p e z none = let h = first x s M j n p e (result_some x s M j n 0 p e z) in omega arith
small_units x s M j n (suc i) p e z none =
    elim (cases_lt (gap j i) (4 * step j i)) [
      | inr g ↦ absurd (found M (gap j i) (step j i) (M * gap j i / step j i) (significand_some p) (gap_pos j i) (step_pos j i) (fine M (gap j i) (step j i) (gap_pos j i) (step_pos j i) g) (none i (omega arith)))
      | inl l ↦
          let u = gap j (suc i) in
          let v = step j (suc i) in
          let t : u ≤ 40 * v = tight j i (le_of_lt l) in
          let a : M * u ≤ 2 ^ 24 * (40 * v) = mul-le-mul (le_of_lt p.short) t in
          let V = step_pos j (suc i) in
          let b : M * u < 671088641 * v = omega arith in
          let r : M * u / v < 671088641 = (div-lt_iff_lt-mul V).1 b in
          let f = M * u - M * u % v in
          elim (chosen_one (within M f u) (within M (f + v) u) (leb v (2 * (M * u % v))) (M * u / v) n e (result_some x s M j n (suc i) p e z)) [
            | inl q ↦ let q0 = q.0 in omega arith
            | inr q ↦ let q0 = q.0 in omega arith
          ]
    ]
