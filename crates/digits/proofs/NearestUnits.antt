-- At its place, the units chosen are the nearest that read back, and the larger of two as near.
use Rattle.std.proofs.Common.{◌≡◌, ℕ, suc, ◌+◌, ◌-◌, ◌*◌, ◌/◌, ◌%◌, ◌<◌, ◌≤◌, Bool, true, false, leb, ◌⊎◌, refl, ap, ◌∙◌, inl, inr, mul-le-mul_right, mod-lt, suc-mul, add-mul, one-mul, arith}
use Rattle.std.proofs.lemmas.Bool.{cases_lt, leb-true, leb-false}
use Rattle.digits.specs.Magnitudes.{apart}
use Rattle.digits.specs.Scaled.{within, units_at, chosen}
use Rattle.digits.proofs.PlaceUnits.{tests_inside, inside_tests, floor_multiple, under, over}

chosen_because : (lo hi half : Bool) (n r : ℕ) → r ≡ chosen lo hi half n → 0 < r
    → ((r ≡ n) × (lo ≡ true) × (hi ≡ true → half ≡ false)) ⊎ ((r ≡ n + 1) × (hi ≡ true) × (lo ≡ true → half ≡ true))
chosen_because true true true n r e h = inr (e, refl, λ z. refl)
chosen_because true true false n r e h = inl (e, refl, λ z. refl)
chosen_because true false half n r e h = grind arith
chosen_because false true true n r e h = inr (e, refl, λ z. refl)
chosen_because false true false n r e h = grind arith
chosen_because false false half n r e h = absurd (omega arith)

pub nearest : (M u v n w : ℕ) → 0 < u → 0 < v → n ≡ units_at M u v → 0 < n → within M (w * v) u ≡ true
    → (apart (n * v) (M * u) ≤ apart (w * v) (M * u)) × (apart (n * v) (M * u) ≡ apart (w * v) (M * u) → w ≤ n)
nearest M u v n w U V e h k =
    let X = M * u in
    let f = X - X % v in
    let r : X % v < v = mod-lt X V in
    let q : f ≡ X / v * v = floor_multiple X v in
    let x = tests_inside M (w * v) u X k in
    let s : suc (X / v) * v ≡ X / v * v + v = suc-mul (X / v) v in
    elim (chosen_because (within M f u) (within M (f + v) u) (leb v (2 * (X % v))) (X / v) n e h) [
      | inl p ↦
          let N : n * v ≡ X / v * v = ap (λ (z : ℕ). z * v) p.0 in
          elim (cases_lt (X / v) w) [
            | inl l ↦
                let g : suc (X / v) * v ≤ w * v = mul-le-mul_right v l in
                let hi : within M (f + v) u ≡ true = inside_tests M (f + v) u X (over M (w * v) (f + v) u X U (omega arith) (omega arith) x) in
                let b : 2 * (X % v) < v = leb-false v (2 * (X % v)) (p.2 hi) in
                (omega arith, λ z. absurd (omega arith))
            | inr l ↦
                let g : w * v ≤ X / v * v = mul-le-mul_right v l in
                let p0 = p.0 in
                (omega arith, λ z. omega arith)
          ]
      | inr p ↦
          let N : n * v ≡ X / v * v + v = ap (λ (z : ℕ). z * v) p.0 ∙ add-mul (X / v) 1 v ∙ ap (λ (z : ℕ). X / v * v + z) (one-mul v) in
          let p0 = p.0 in
          elim (cases_lt (X / v) w) [
            | inl l ↦
                let g : suc (X / v) * v ≤ w * v = mul-le-mul_right v l in
                (omega arith, λ z. small (X / v) w l (λ c. let t : suc (suc (X / v)) * v ≤ w * v = mul-le-mul_right v c in let t' = suc-mul (suc (X / v)) v in omega arith) p0)
            | inr l ↦
                let g : w * v ≤ X / v * v = mul-le-mul_right v l in
                let lo : within M f u ≡ true = inside_tests M f u X (under M (w * v) f u X U (omega arith) (omega arith) x) in
                let b : v ≤ 2 * (X % v) = leb-true v (2 * (X % v)) (p.2 lo) in
                (omega arith, λ z. omega arith)
          ]
    ]
  where
    small : (a w : ℕ) → a < w → (suc a < w → ⊥) → n ≡ a + 1 → w ≤ n
    small a w l c p = omega (arith, c)
