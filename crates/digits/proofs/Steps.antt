-- The three steps of rounding, each with its error: the product, the whole number, the quotient.
use Rattle.std.proofs.Common.{◌≡◌, ℕ, zero, suc, ◌+◌, ◌*◌, ◌^◌, ◌<◌, ◌≤◌, Bool, true, false, cond, T, eqb, sym, refl, ap, ◌∙◌, subst, mul-le-mul_right, mul_assoc, mul_comm, mul-pos, zero-mul, mul-one, mul_right_comm, div-mul-le_self, le_of_mul-le-mul_right, mul_left_comm, arith}
use native.Mathlib.Nat.{lt-div-mul-add}
use lib.Ieee.{Float, nan, inf, fin, binary32, up, down, round, mul, div, unlike, of_int}
use lib.Ieee.Fits.{down_pos, round_is}
use lib.Ieee.Exact.{HasValue, units_val}
use Rattle.std.proofs.lemmas.Bool.{cond-false, ne_eqb}
use Rattle.std.specs.Float.{round_with, float_round, ratio_round_half_up}
use Rattle.digits.specs.Rounded.{power_of_ten}
use Rattle.digits.proofs.ReadsBack.{rounded_grains}
use Rattle.digits.proofs.ErrorBound.{Off, off}

expand : (n c G k : ℕ) → (2 ^ 24 * n + n + 2 ^ 23 * c) * k ≡ 2 ^ 24 * (n * k) + n * k + 2 ^ 23 * (c * k)
expand n c G k = grind arith

mixed : (n c G k : ℕ) → (2 ^ 24 * G + n + 2 ^ 23 * c) * k ≡ 2 ^ 24 * (G * k) + n * k + 2 ^ 23 * (c * k)
mixed n c G k = grind arith

off_by : (n c G k : ℕ) → Off n c G → Off (n * k) (c * k) (G * k)
off_by n c G k x =
    let a = mul-le-mul_right k x.high in let b = mul-le-mul_right k x.low in
    let p = mul_assoc (2 ^ 24) G k in let q = mul_assoc (2 ^ 24) n k in let r = expand n c G k in let s = mixed n c G k in
    record { high = omega arith; low = omega arith }

by_off : (n c G k : ℕ) → 0 < k → Off (n * k) (c * k) (G * k) → Off n c G
by_off n c G k P x =
    let p = mul_assoc (2 ^ 24) G k in let q = mul_assoc (2 ^ 24) n k in let r = expand n c G k in let s = mixed n c G k in
    let a : 2 ^ 24 * G * k ≤ (2 ^ 24 * n + n + 2 ^ 23 * c) * k = (let h = x.high in omega arith) in
    let b : 2 ^ 24 * n * k ≤ (2 ^ 24 * G + n + 2 ^ 23 * c) * k = (let h = x.low in omega arith) in
    record { high = le_of_mul-le-mul_right a P; low = le_of_mul-le-mul_right b P }

-- num / den is b / T units
pub off_at : (num den b T : ℕ) → 0 < den → num * 2 ^ 149 * T ≡ b * den → Off b T (rounded_grains num den * T)
off_at num den b T D e =
    let g = rounded_grains num den in
    by_off b T (g * T) den D
    (subst (λ (z : ℕ). Off z (T * den) (g * T * den)) e
    (subst (λ (z : ℕ). Off (num * 2 ^ 149 * T) z (g * T * den)) (mul_comm den T)
    (subst (λ (z : ℕ). Off (num * 2 ^ 149 * T) (den * T) z) (mul_right_comm g den T) (off_by (num * 2 ^ 149) den (g * den) T (off (num * 2 ^ 149) den D)))))

-- ---- a rounded fraction, in grains
pub round_value : (s : Bool) (num den : ℕ) → rounded_grains num den < 2 ^ 277 → HasValue (round binary32 s num den) s (rounded_grains num den) (2 ^ 149)
round_value s num den h = grind (arith, round_is, units_val)

grains_small : (b t g : ℕ) → 0 < t → t ≤ 10 ^ 8 → b ≤ 2 ^ 220 → Off b t (g * t) → g < 2 ^ 277
grains_small b t g T u h x = grind arith

-- b / t grains rounded, as the float s num / den
pub record Stepped (s : Bool) (num den b t : ℕ) : Type 0 where
  pub value : HasValue (round binary32 s num den) s (rounded_grains num den) (2 ^ 149)
  pub size : HasValue (round binary32 false num den) false (rounded_grains num den) (2 ^ 149)
  pub off_by : Off b t (rounded_grains num den * t)

pub stepped : (s : Bool) (num den b t : ℕ) → 0 < den → 0 < t → t ≤ 10 ^ 8 → b ≤ 2 ^ 220 → num * 2 ^ 149 * t ≡ b * den → Stepped s num den b t
stepped s num den b t D P u h e =
    let x = off_at num den b t D e in
    let g = grains_small b t (rounded_grains num den) P u h x in
    record { value = round_value s num den g; size = round_value false num den g; off_by = x }

-- ---- the product with a whole number
like : (s : Bool) → unlike s false ≡ s
like true = refl
like false = refl

-- an operation's result as a fraction: b / t grains
pub record Fraction (r : Float) (s : Bool) (b t : ℕ) : Type 0 where
  pub num : ℕ
  pub den : ℕ
  pub is : r ≡ round binary32 s num den
  pub some : 0 < den
  pub ratio : num * 2 ^ 149 * t ≡ b * den

pub product : (x y : Float) (s : Bool) (a t : ℕ) → HasValue x s a (2 ^ 149) → HasValue y false t 1 → Fraction (mul binary32 x y) s (a * t) 1
unfolding mul
product nan y s a t v w = absurd v
product (inf u) y s a t v w = absurd v
product (fin u m e) nan s a t v w = absurd w
product (fin u m e) (inf z) s a t v w = absurd w
product (fin u m e) (fin z n d) s a t v w = record {
  num = m * up e * (n * up d);
  den = down e * down d;
  is = ap (λ (k : Bool). round binary32 k (m * up e * (n * up d)) (down e * down d)) (ap (λ (k : Bool). unlike u k) w.0 ∙ like u ∙ v.0);
  some = mul-pos (down_pos e) (down_pos d);
  ratio = regroup (m * up e) (n * up d) ∙ ap (λ (k : ℕ). k * (n * up d * 1)) v.1 ∙ ap (λ (k : ℕ). a * down e * k) w.1 ∙ swap a (down e) t (down d);
}
  where
    regroup : (b c : ℕ) → b * c * 2 ^ 149 * 1 ≡ b * 2 ^ 149 * (c * 1)
    regroup b c = mul-one (b * c * 2 ^ 149) ∙ mul_right_comm b c (2 ^ 149) ∙ ap (λ (z : ℕ). b * 2 ^ 149 * z) (sym (mul-one c))

    swap : (a d t f : ℕ) → a * d * (t * f) ≡ a * t * (d * f)
    swap a d t f = simp (mul_assoc, mul_left_comm)

-- ---- the nearest whole number, halves away from zero
pub record Whole (y : Float) (s : Bool) (g : ℕ) : Type 0 where
  pub number : ℕ
  pub is : float_round binary32 y ≡ round binary32 s number 1
  pub not_above : 2 * (number * 2 ^ 149) ≤ 2 * g + 2 ^ 149
  pub not_below : 2 * g ≤ 2 * (number * 2 ^ 149) + 2 ^ 149

half_above : (n d g R : ℕ) → 0 < d → n * 2 ^ 149 ≡ g * d → R * (2 * d) ≤ 2 * n + d → 2 * (R * 2 ^ 149) ≤ 2 * g + 2 ^ 149
half_above n d g R D e h =
    let k : 2 * (R * 2 ^ 149) * d ≤ (2 * g + 2 ^ 149) * d = omega arith in
    le_of_mul-le-mul_right k D

half_below : (n d g R : ℕ) → 0 < d → n * 2 ^ 149 ≡ g * d → 2 * n + d < R * (2 * d) + 2 * d → 2 * g ≤ 2 * (R * 2 ^ 149) + 2 ^ 149
half_below n d g R D e h =
    let k : 2 * g * d ≤ (2 * (R * 2 ^ 149) + 2 ^ 149) * d = omega arith in
    le_of_mul-le-mul_right k D

pub to_whole : (y : Float) (s : Bool) (g : ℕ) → HasValue y s g (2 ^ 149) → Whole y s g
unfolding round_with
to_whole nan s g v = absurd v
to_whole (inf t) s g v = absurd v
to_whole (fin true m e) s g v =
    let n = m * up e in let d = down e in let R = ratio_round_half_up n d in
    let D2 : 0 < 2 * d = (let h = down_pos e in omega arith) in
    record {
      number = R;
      is = ap (λ (k : Bool). round binary32 k R 1) v.0;
      not_above = half_above n d g R (down_pos e) v.1 (div-mul-le_self (2 * n + d) (2 * d));
      not_below = half_below n d g R (down_pos e) v.1 (lt-div-mul-add {a = 2 * n + d} {b = 2 * d} D2);
    }
to_whole (fin false m e) s g v =
    let n = m * up e in let d = down e in let R = ratio_round_half_up n d in
    let D2 : 0 < 2 * d = (let h = down_pos e in omega arith) in
    record {
      number = R;
      is = ap (λ (k : Bool). round binary32 k R 1) v.0;
      not_above = half_above n d g R (down_pos e) v.1 (div-mul-le_self (2 * n + d) (2 * d));
      not_below = half_below n d g R (down_pos e) v.1 (lt-div-mul-add {a = 2 * n + d} {b = 2 * d} D2);
    }

-- ---- the quotient by a whole number
pub quotient : (x y : Float) (s : Bool) (a t : ℕ) → 0 < t → HasValue x s a (2 ^ 149) → HasValue y false t 1 → Fraction (div binary32 x y) s a t
unfolding div
quotient nan y s a t P v w = absurd v
quotient (inf u) y s a t P v w = absurd v
quotient (fin u m e) nan s a t P v w = absurd w
quotient (fin u m e) (inf z) s a t P v w = absurd w
quotient (fin u m e) (fin z n d) s a t P v w =
    let L = 2 ^ 149 in
    let N : n * up d ≡ t * down d = sym (mul-one (n * up d)) ∙ w.1 in
    let pos : 0 < n * up d = subst (λ (k : ℕ). 0 < k) (sym N) (mul-pos P (down_pos d)) in
    let nz : n ≡ 0 → ⊥ = λ k. (let q : n * up d ≡ 0 = ap (λ (j : ℕ). j * up d) k ∙ zero-mul (up d) in omega arith) in
    let num = m * up e * down d in
    let den = n * up d * down e in
    record {
      num = num;
      den = den;
      is = cond-false (eqb n 0) (cond (eqb m 0) nan (inf (unlike u z))) (round binary32 (unlike u z) num den) (ne_eqb n 0 nz)
          ∙ ap (λ (k : Bool). round binary32 k num den) (ap (λ (k : Bool). unlike u k) w.0 ∙ like u ∙ v.0);
      some = mul-pos pos (down_pos e);
      ratio = mul_right_comm (m * up e * down d) L t ∙ regroup (m * up e) (down d) t ∙ ap (λ (k : ℕ). k * (t * down d)) v.1 ∙ ap (λ (k : ℕ). a * down e * k) (sym N) ∙ swap a (down e) (n * up d);
    }
  where
    regroup : (b c t : ℕ) → b * c * t * 2 ^ 149 ≡ b * 2 ^ 149 * (t * c)
    regroup b c t = simp (mul_assoc, mul_comm)

    swap : (a d n : ℕ) → a * d * n ≡ a * (n * d)
    swap a d n = mul_assoc a d n ∙ ap (λ (z : ℕ). a * z) (mul_comm d n)

-- ---- the powers of ten are floats
pub power_value : (p : ℕ) → p ≤ 8 → HasValue (power_of_ten p) false (10 ^ p) 1
unfolding of_int round
power_value zero h = (refl, refl)
power_value (suc zero) h = (refl, refl)
power_value (suc (suc zero)) h = (refl, refl)
power_value (suc (suc (suc zero))) h = (refl, refl)
power_value (suc (suc (suc (suc zero)))) h = (refl, refl)
power_value (suc (suc (suc (suc (suc zero))))) h = (refl, refl)
power_value (suc (suc (suc (suc (suc (suc zero)))))) h = (refl, refl)
power_value (suc (suc (suc (suc (suc (suc (suc zero))))))) h = (refl, refl)
power_value (suc (suc (suc (suc (suc (suc (suc (suc zero)))))))) h = (refl, refl)
power_value (suc (suc (suc (suc (suc (suc (suc (suc (suc p))))))))) h = grind arith
