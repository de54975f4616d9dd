-- The units that the code chooses at one place: they read back, and it chooses some wherever any read back.
-- M is the significand, j the power of two, u the gap and v the step of the place, and X is M * u, the float.
use Rattle.std.proofs.Common.{◌≡◌, ℕ, suc, ◌+◌, ◌-◌, ◌*◌, ◌/◌, ◌%◌, ◌^◌, ◌<◌, ◌≤◌, Bool, true, false, cond, ◌&&◌, eqb, ltb, leb, ◌⊎◌, sym, refl, ap, ◌∙◌, subst, inl, inr, mul-le-mul_right, mod-lt, mul_assoc, suc-mul, mul_comm, add-mul, eq-zero-or-pos, mul-pos, one-mul, mul-one, le_of_mul-le-mul_right, arith, pow_pos, pow_mono, pow-add}
use native.Mathlib.Nat.{eq_of_mul-eq-mul_right}
use lib.Ieee.{Float, binary32, round}
use Rattle.std.proofs.lemmas.Bool.{cases_lt}
use Rattle.digits.specs.Bare.{tens_above, tens_below}
use Rattle.digits.specs.Scaled.{Parts, within, gap, step, units_at, chosen}
use Rattle.digits.proofs.Between.{Inside}
use Rattle.digits.proofs.ReadsBack.{reads_back, inside}
use Rattle.digits.proofs.Texts.{ten_pos}

-- ---- the test of the code
abbrev tests : ℕ → ℕ → ℕ → ℕ → Bool
tests m n u X =
    cond (eqb (m % 2) 0) (leb (2 * n) (2 * X + u)) (ltb (2 * n) (2 * X + u))
    && cond (eqb m 8388608) (leb (4 * X) (4 * n + u)) (cond (eqb (m % 2) 0) (leb (2 * X) (2 * n + u)) (ltb (2 * X) (2 * n + u)))

pub tests_inside : (m n u X : ℕ) → tests m n u X ≡ true → Inside m n u X
tests_inside m n u X e = grind arith

pub inside_tests : (m n u X : ℕ) → Inside m n u X → tests m n u X ≡ true
inside_tests m n u X x = grind arith

-- ---- a common factor
twice_scaled : (a b u G : ℕ) → 2 * a ≤ 2 * b + u → 2 * (a * G) ≤ 2 * (b * G) + u * G
twice_scaled a b u G h = let k = mul-le-mul_right G h in let p = mul_assoc 2 a G in let q = add-mul (2 * b) u G in let r = mul_assoc 2 b G in omega arith

twice_unscaled : (a b u G : ℕ) → 0 < G → 2 * (a * G) ≤ 2 * (b * G) + u * G → 2 * a ≤ 2 * b + u
twice_unscaled a b u G P h = le_of_mul-le-mul_right (let p = mul_assoc 2 a G in let q = add-mul (2 * b) u G in let r = mul_assoc 2 b G in let g : 2 * a * G ≤ (2 * b + u) * G = omega arith in g) P

four_scaled : (a b u G : ℕ) → 4 * a ≤ 4 * b + u → 4 * (a * G) ≤ 4 * (b * G) + u * G
four_scaled a b u G h = let k = mul-le-mul_right G h in let p = mul_assoc 4 a G in let q = add-mul (4 * b) u G in let r = mul_assoc 4 b G in omega arith

four_unscaled : (a b u G : ℕ) → 0 < G → 4 * (a * G) ≤ 4 * (b * G) + u * G → 4 * a ≤ 4 * b + u
four_unscaled a b u G P h = le_of_mul-le-mul_right (let p = mul_assoc 4 a G in let q = add-mul (4 * b) u G in let r = mul_assoc 4 b G in let g : 4 * a * G ≤ (4 * b + u) * G = omega arith in g) P

tie_scaled : (a b u G : ℕ) → 2 * a ≡ 2 * b + u → 2 * (a * G) ≡ 2 * (b * G) + u * G
tie_scaled a b u G e = sym (mul_assoc 2 a G) ∙ ap (λ (z : ℕ). z * G) e ∙ add-mul (2 * b) u G ∙ ap (λ (z : ℕ). z + u * G) (mul_assoc 2 b G)

tie_unscaled : (a b u G : ℕ) → 0 < G → 2 * (a * G) ≡ 2 * (b * G) + u * G → 2 * a ≡ 2 * b + u
tie_unscaled a b u G P e = eq_of_mul-eq-mul_right G P (2 * a) (2 * b + u) (mul_assoc 2 a G ∙ e ∙ sym (add-mul (2 * b) u G ∙ ap (λ (z : ℕ). z + u * G) (mul_assoc 2 b G)))

pub scale : (M n U X G : ℕ) → 0 < G → Inside M n U X → Inside M (n * G) (U * G) (X * G)
scale M n U X G P x = grind (arith, twice_scaled, four_scaled, tie_unscaled)

pub unscale : (M n U X G : ℕ) → 0 < G → Inside M (n * G) (U * G) (X * G) → Inside M n U X
unscale M n U X G P x = grind (arith, twice_unscaled, four_unscaled, tie_scaled)

-- ---- the code's numbers are the fraction's, over 2 ^ the lesser of 149 and j
abbrev pub common_power : ℕ → ℕ
common_power j = 149 - (149 - j)

swap_under : (n a b c : ℕ) → n * a * (b * c) ≡ n * (b * a) * c
swap_under n a b c = simp (mul_assoc, mul_comm)

swap_in : (a b c : ℕ) → a * (b * c) ≡ b * a * c
swap_in a b c = simp (mul_assoc, mul_comm)

pub units_scaled : (n i j : ℕ) → n * tens_above i * 2 ^ 149 ≡ n * step j i * 2 ^ common_power j
units_scaled n i j =
    let e : 149 ≡ 149 - j + common_power j = omega arith in
    ap (λ (z : ℕ). n * tens_above i * 2 ^ z) e ∙ ap (λ (z : ℕ). n * tens_above i * z) (pow-add 2 (149 - j) (common_power j)) ∙ swap_under n (tens_above i) (2 ^ (149 - j)) (2 ^ common_power j)

pub gap_scaled : (i j : ℕ) → tens_below i * 2 ^ j ≡ gap j i * 2 ^ common_power j
gap_scaled i j =
    let e : j ≡ j - 149 + common_power j = omega arith in
    ap (λ (z : ℕ). tens_below i * 2 ^ z) e ∙ ap (λ (z : ℕ). tens_below i * z) (pow-add 2 (j - 149) (common_power j)) ∙ swap_in (tens_below i) (2 ^ (j - 149)) (2 ^ common_power j)

inside_scaled : (M n i j : ℕ) → Inside M (n * tens_above i * 2 ^ 149) (tens_below i * 2 ^ j) (M * (tens_below i * 2 ^ j)) ≡ Inside M (n * step j i * 2 ^ common_power j) (gap j i * 2 ^ common_power j) (M * gap j i * 2 ^ common_power j)
inside_scaled M n i j = grind (arith, tens_below, units_scaled, gap_scaled, mul_assoc)

pub within_reads : (x : Float) (s : Bool) (M j n i : ℕ) → Parts x s M j → within M (n * step j i) (gap j i) ≡ true → round binary32 s (n * tens_above i) (tens_below i) ≡ x
within_reads x s M j n i p e = grind (arith, reads_back, tens_above, tens_below, ten_pos, inside_scaled, scale, pow_pos, tests_inside)

pub reads_within : (x : Float) (s : Bool) (M j n i : ℕ) → Parts x s M j → round binary32 s (n * tens_above i) (tens_below i) ≡ x → within M (n * step j i) (gap j i) ≡ true
reads_within x s M j n i p e =
    inside_tests M (n * step j i) (gap j i) (M * gap j i)
    (unscale M (n * step j i) (gap j i) (M * gap j i) (2 ^ common_power j) (pow_pos (common_power j))
    (subst (λ (A : Type 0). A) (inside_scaled M n i j) (inside x s M j (n * tens_above i) (tens_below i) p (ten_pos (i - 12)) e)))

-- ---- what lies between x and a number that reads as x reads as x
pub under : (M w f u X : ℕ) → 0 < u → w ≤ f → f ≤ X → Inside M w u X → Inside M f u X
under M w f u X P h k x = grind arith

pub over : (M w f u X : ℕ) → 0 < u → f ≤ w → X ≤ f → Inside M w u X → Inside M f u X
over M w f u X P h k x = grind arith

-- ---- where any number at the place i reads as x, the code finds one there
pub floor_multiple : (X v : ℕ) → X - X % v ≡ X / v * v
floor_multiple X v = grind arith

chosen_some : (lo hi half : Bool) (n : ℕ) → (lo ≡ true → 0 < n) → (lo ≡ true) ⊎ (hi ≡ true) → chosen lo hi half n ≡ 0 → ⊥
chosen_some lo hi half n pos e z = grind arith

low_pos : (M u v : ℕ) → 0 < M → 0 < u → within M (M * u - M * u % v) u ≡ true → 0 < M * u / v
low_pos M u v P U e = grind arith

pub found : (M u v w : ℕ) → 0 < M → 0 < u → 0 < v → within M (w * v) u ≡ true → units_at M u v ≡ 0 → ⊥
found M u v w P U V h z =
    let X = M * u in
    let f = X - X % v in
    let x = tests_inside M (w * v) u X h in
    let r : X % v < v = mod-lt X V in
    let e : f ≡ X / v * v = floor_multiple X v in
    chosen_some (within M f u) (within M (f + v) u) (leb v (2 * (X % v))) (X / v) (low_pos M u v P U)
    (elim (cases_lt (X / v) w) [
      | inl l ↦
          let g : suc (X / v) * v ≤ w * v = mul-le-mul_right v l in
          let s : suc (X / v) * v ≡ X / v * v + v = suc-mul (X / v) v in
          inr (inside_tests M (f + v) u X (over M (w * v) (f + v) u X U (omega arith) (omega arith) x))
      | inr l ↦
          let g : w * v ≤ X / v * v = mul-le-mul_right v l in
          inl (inside_tests M f u X (under M (w * v) f u X U (omega arith) (omega arith) x))
    ]) z

-- what the code picks at a place reads as x
pub chosen_one : (lo hi half : Bool) (n r : ℕ) → r ≡ chosen lo hi half n → 0 < r → ((r ≡ n) × (lo ≡ true)) ⊎ ((r ≡ n + 1) × (hi ≡ true))
chosen_one true true true n r e h = inr (e, refl)
chosen_one true true false n r e h = inl (e, refl)
chosen_one true false half n r e h = inl (e, refl)
chosen_one false true half n r e h = grind arith
chosen_one false false half n r e h = absurd (omega arith)

pub picked : (M u v r : ℕ) → r ≡ units_at M u v → 0 < r → within M (r * v) u ≡ true
picked M u v r e h =
    let X = M * u in
    let f = X - X % v in
    let q : f ≡ X / v * v = floor_multiple X v in
    elim (chosen_one (within M f u) (within M (f + v) u) (leb v (2 * (X % v))) (X / v) r e h) [
      | inl p ↦ subst (λ (z : ℕ). within M z u ≡ true) (q ∙ ap (λ (z : ℕ). z * v) (sym p.0)) p.1
      | inr p ↦ subst (λ (z : ℕ). within M z u ≡ true) (ap (λ (z : ℕ). z + v) q ∙ one_step (X / v) v ∙ ap (λ (z : ℕ). z * v) (sym p.0)) p.1
    ]
  where
    one_step : (a v : ℕ) → a * v + v ≡ (a + 1) * v
    one_step a v = let t = add-mul a 1 v in let o = one-mul v in omega arith

-- at the last place there is always one
pub fine : (M u v : ℕ) → 0 < u → 0 < v → 4 * v ≤ u → within M (M * u / v * v) u ≡ true
fine M u v U V h = grind arith

pub last_fine : (j : ℕ) → 99 ≤ j → j ≤ 166 → 4 * step j 28 ≤ gap j 28
last_fine j h k =
    let a : 149 - j ≤ 50 = omega arith in
    let p : 2 ^ (149 - j) ≤ 2 ^ 50 = pow_mono a in
    let q : 1 * 10 ^ 16 ≤ 2 ^ (j - 149) * 10 ^ 16 = mul-le-mul_right (10 ^ 16) (pow_pos (j - 149)) in
    let r : 2 ^ (149 - j) * 1 ≡ 2 ^ (149 - j) = mul-one (2 ^ (149 - j)) in
    omega arith

pub gap_pos : (j i : ℕ) → 0 < gap j i
gap_pos j i = grind (arith, mul-pos, pow_pos, ten_pos)

pub step_pos : (j i : ℕ) → 0 < step j i
step_pos j i = grind (arith, mul-pos, pow_pos, ten_pos)

pub significand_some : {x : Float} {s : Bool} {M j : ℕ} → Parts x s M j → 0 < M
significand_some p = grind arith

pub result_some : (x : Float) (s : Bool) (M j n i : ℕ) → Parts x s M j → n ≡ units_at M (gap j i) (step j i) → (n ≡ 0 → i ≡ 28) → 0 < n
result_some x s M j n i p e z = elim (eq-zero-or-pos n) [
  | inr q ↦ q
  | inl q ↦
      let o : i ≡ 28 = z q in
      absurd (found M (gap j 28) (step j 28) (M * gap j 28 / step j 28) (significand_some p) (gap_pos j 28) (step_pos j 28)
      (fine M (gap j 28) (step j 28) (gap_pos j 28) (step_pos j 28) (last_fine j p.above p.below))
      (ap (λ (k : ℕ). units_at M (gap j k) (step j k)) (sym o) ∙ sym e ∙ q))
]

pub result_reads : (x : Float) (s : Bool) (M j n i : ℕ) → Parts x s M j → n ≡ units_at M (gap j i) (step j i) → (n ≡ 0 → i ≡ 28) → round binary32 s (n * tens_above i) (tens_below i) ≡ x
result_reads x s M j n i p e z = within_reads x s M j n i p (picked M (gap j i) (step j i) n e (result_some x s M j n i p e z))

pub none_before : (x : Float) (s : Bool) (M j k w : ℕ) → Parts x s M j → units_at M (gap j k) (step j k) ≡ 0 → round binary32 s (w * tens_above k) (tens_below k) ≡ x → ⊥
none_before x s M j k w p z e = found M (gap j k) (step j k) w (significand_some p) (gap_pos j k) (step_pos j k) (reads_within x s M j w k p e) z
