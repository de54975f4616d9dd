-- The whole part and the fraction of a float: both are floats, so taking them loses nothing.
use Rattle.std.proofs.Common.{◌≡◌, ℕ, zero, suc, ◌+◌, ◌-◌, ◌*◌, ◌/◌, ◌%◌, ◌^◌, ◌<◌, ◌≤◌, Bool, true, false, cond, not, ◌&&◌, T, ltb, ◌⊎◌, sym, refl, ap, ◌∙◌, subst, inl, inr, true≢false, le_trans, le_of_eq, le_of_lt, mul-le-mul_right, mul_assoc, mul_comm, eq-zero-or-pos, mul-le-mul_left, mul-pos, div-add-mod', zero-mul, mul-one, mul_right_comm, div-mul-le_self, le_of_mul-le-mul_right, mul-div_cancel, arith, lit<, pow_pos, pow_mono, pow-add}
use mathlib.Core.Bool.{false≢true}
use native.Mathlib.Nat.{mul-mod_left, mod-le, eq_of_mul-eq-mul_right}
use lib.Ieee.{Float, nan, inf, fin, binary32, up, down, fits, to_bits, of_bits, round, sum, add, sub, neg, le}
use lib.Ieee.Exact.{HasValue, round_exact}
use lib.Ieee.Fits.{down_pos}
use lib.Ieee.Nearest.{div_same}
use lib.Ieee.Scale.{finite}
use Rattle.std.proofs.lemmas.Bool.{cases_lt, lt-ltb, le-ltb, and_parts, and_from, eqb-true}
use Rattle.std.proofs.lemmas.Bool.Decides.{nat_tests}
use Rattle.std.specs.Float.{round_with, trunc}
use Rattle.digits.specs.Magnitudes.{grains, nought}
use Rattle.digits.specs.Rounded.{fraction, is_whole}
use Rattle.digits.proofs.Shortness.{sub_mul}
use Rattle.digits.proofs.Searched.{mod_scale}
use Rattle.digits.proofs.Values.{field_grains, bits_value, grains_of, grains_le, le_grains}
use lib.Ieee.Bits.{is_true}

-- ---- a value in another scale
pub rescaled : (x : Float) (s : Bool) (num den a c : ℕ) → 0 < den → num * c ≡ a * den → HasValue x s num den → HasValue x s a c
rescaled nan s num den a c D e v = v
rescaled (inf t) s num den a c D e v = v
rescaled (fin t m z) s num den a c D e v = (
  v.0,
  eq_of_mul-eq-mul_right den D (m * up z * c) (a * down z)
      (mul_right_comm (m * up z) c den ∙ ap (λ (w : ℕ). w * c) v.1 ∙ mul_right_comm num (down z) c ∙ ap (λ (w : ℕ). w * down z) e ∙ mul_right_comm a den (down z)),
)

-- a fraction that is q * 2 ^ j grains is a float
pub exact : (s : Bool) (num den a q j : ℕ) → 0 < den → q < 2 ^ 24 → a ≡ q * 2 ^ j → a < 2 ^ 277 → num * 2 ^ 149 ≡ a * den → HasValue (round binary32 s num den) s a (2 ^ 149)
exact s num den a q j D small e fine h =
    rescaled (round binary32 s num den) s num den a (2 ^ 149) D h
    (round_exact binary32 s num den q j D small (subst (λ (z : ℕ). z < 2 ^ 277) e fine) (h ∙ ap (λ (z : ℕ). z * den) e))

-- ---- a float's grains have 24 digits
abbrev pub Digits : ℕ → Type 0
Digits a = (q : ℕ) × (j : ℕ) × (q < 2 ^ 24) × (a ≡ q * 2 ^ j)

field_digits : (F t : ℕ) → t < 2 ^ 23 → Digits (field_grains F t)
field_digits zero t h = (t, 0, omega arith, sym (mul-one t))
field_digits (suc k) t h = (2 ^ 23 + t, k, omega arith, refl)

pub float_digits : (x : Float) → T (fits binary32 x) → T (finite x) → Digits (grains x)
float_digits x p h = grind (arith, to_bits, bits_value, field_grains, grains_of, field_digits)

above_one : (k : ℕ) → 149 ≤ k → 2 ^ k ≡ 2 ^ (k - 149) * 2 ^ 149
above_one k h = grind (arith, pow-add)

below_one : (k : ℕ) → k < 149 → 2 ^ 149 ≡ 2 ^ (149 - k) * 2 ^ k
below_one k h = let e : 149 ≡ 149 - k + k = omega arith in ap (λ (z : ℕ). 2 ^ z) e ∙ pow-add 2 (149 - k) k

-- the float is whole where its last digit stands at one or above
whole_grains : (a q k : ℕ) → a ≡ q * 2 ^ k → 149 ≤ k → a ≡ q * 2 ^ (k - 149) * 2 ^ 149
whole_grains a q k e h = grind (arith, above_one, mul_assoc)

pub whole_digits : (a : ℕ) → Digits a → Digits (a / 2 ^ 149 * 2 ^ 149)
whole_digits a d = go d.0 d.1 d.2 d.3
  where
    go : (q k : ℕ) → q < 2 ^ 24 → a ≡ q * 2 ^ k → Digits (a / 2 ^ 149 * 2 ^ 149)
    go q k small e = elim (cases_lt k 149) [
      | inl h ↦
          let l : a / 2 ^ 149 * 2 ^ 149 ≤ a = div-mul-le_self a (2 ^ 149) in
          let m : q * 2 ^ k ≤ q * 2 ^ 149 = mul-le-mul_left q (pow_mono (le_of_lt h)) in
          let w : a / 2 ^ 149 ≤ q = le_of_mul-le-mul_right {k = 2 ^ 149} (le_trans l (le_trans (le_of_eq e) m)) (pow_pos 149) in
          (a / 2 ^ 149, 149, omega arith, refl)
      | inr h ↦
          let b = whole_grains a q k e h in
          let w : a / 2 ^ 149 ≡ q * 2 ^ (k - 149) = ap (λ (z : ℕ). z / 2 ^ 149) b ∙ mul-div_cancel (q * 2 ^ (k - 149)) (pow_pos 149) in
          (q, k, small, ap (λ (z : ℕ). z * 2 ^ 149) w ∙ sym b ∙ e)
    ]

pub rest_digits : (a : ℕ) → Digits a → Digits (a % 2 ^ 149)
rest_digits a d = go d.0 d.1 d.2 d.3
  where
    go : (q k : ℕ) → q < 2 ^ 24 → a ≡ q * 2 ^ k → Digits (a % 2 ^ 149)
    go q k small e = elim (cases_lt k 149) [
      | inl h ↦
          let v = 2 ^ (149 - k) in
          let m : q % v ≤ q = mod-le q v in
          (q % v, k, omega arith, ap (λ (z : ℕ). z % 2 ^ 149) e ∙ ap (λ (z : ℕ). q * 2 ^ k % z) (below_one k h) ∙ mod_scale q v (2 ^ k) (pow_pos (149 - k)) (pow_pos k))
      | inr h ↦ (0, 0, lit< tt, ap (λ (z : ℕ). z % 2 ^ 149) (whole_grains a q k e h) ∙ mul-mod_left (q * 2 ^ (k - 149)) (2 ^ 149))
    ]

-- a float that is not whole is below 2 ^ 23
pub rest_small : (a : ℕ) → Digits a → (a % 2 ^ 149 ≡ 0 → ⊥) → a < 2 ^ 172
rest_small a d n = go d.0 d.1 d.2 d.3
  where
    go : (q k : ℕ) → q < 2 ^ 24 → a ≡ q * 2 ^ k → a < 2 ^ 172
    go q k small e = elim (cases_lt k 149) [
      | inl h ↦
          let i : k ≤ 148 = omega arith in
          let m : q * 2 ^ k ≤ q * 2 ^ 148 = mul-le-mul_left q (pow_mono i) in
          omega arith
      | inr h ↦ absurd (n (ap (λ (z : ℕ). z % 2 ^ 149) (whole_grains a q k e h) ∙ mul-mod_left (q * 2 ^ (k - 149)) (2 ^ 149)))
    ]

-- ---- the whole part as a float
pub whole_value : (s : Bool) (a : ℕ) → Digits a → a ≤ 2 ^ 189 → HasValue (round binary32 s (a / 2 ^ 149) 1) s (a / 2 ^ 149 * 2 ^ 149) (2 ^ 149)
whole_value s a d h =
    let w = whole_digits a d in
    let l : a / 2 ^ 149 * 2 ^ 149 ≤ a = div-mul-le_self a (2 ^ 149) in
    exact s (a / 2 ^ 149) 1 (a / 2 ^ 149 * 2 ^ 149) w.0 w.1 (lit< tt) w.2 w.3 (omega arith) (sym (mul-one (a / 2 ^ 149 * 2 ^ 149)))

pub trunc_value : (x : Float) (s : Bool) (a : ℕ) → HasValue x s a (2 ^ 149) → Digits a → a ≤ 2 ^ 189 → HasValue (trunc binary32 x) s (a / 2 ^ 149 * 2 ^ 149) (2 ^ 149)
unfolding round_with
trunc_value nan s a v d h = absurd v
trunc_value (inf t) s a v d h = absurd v
trunc_value (fin true m e) s a v d h = grind (arith, div_same, down_pos, pow_pos, whole_value)
trunc_value (fin false m e) s a v d h = grind (arith, div_same, down_pos, pow_pos, whole_value)

-- ---- the difference of two floats of one sign
ltb_same : (A B a b c L : ℕ) → 0 < c → 0 < L → A * L ≡ a * c → B * L ≡ b * c → ltb B A ≡ ltb b a
ltb_same A B a b c L C P e f = grind (arith, cases_lt, lt-ltb, mul-le-mul_right, le-ltb, le_of_mul-le-mul_right)

difference : (s : Bool) (A B c a b q j : ℕ) → 0 < c → A * 2 ^ 149 ≡ a * c → B * 2 ^ 149 ≡ b * c → b ≤ a → q < 2 ^ 24 → a - b ≡ q * 2 ^ j → a < 2 ^ 277
    → HasValue (sum binary32 s A (not s) B c) (s && ltb b a) (a - b) (2 ^ 149)
unfolding sum
difference s A B c a b q j C e f h small g fine =
    let L = 2 ^ 149 in
    let under : ltb A B ≡ false = ltb_same B A b a c L C (pow_pos 149) f e ∙ le-ltb a b h in
    let over : ltb B A ≡ ltb b a = ltb_same A B a b c L C (pow_pos 149) e f in
    let D : (A - B) * L ≡ (a - b) * c = sub_mul A B L ∙ ap (λ (z : ℕ). z - B * L) e ∙ ap (λ (z : ℕ). a * c - z) f ∙ sym (sub_mul a b c) in
    let r : HasValue (round binary32 (s && ltb b a) (A - B) c) (s && ltb b a) (a - b) L = exact (s && ltb b a) (A - B) c (a - b) q j C small g (omega arith) D in
    go s under (subst (λ (z : Bool). HasValue (round binary32 (s && z) (A - B) c) (s && ltb b a) (a - b) L) (sym over) r)
  where
    pick : (b1 : Bool) (y z : Float) (t : Bool) → b1 ≡ false → HasValue z t (a - b) (2 ^ 149) → HasValue (cond b1 y z) t (a - b) (2 ^ 149)
    pick true y z t k v = absurd (true≢false k)
    pick false y z t k v = v

    go : (s : Bool) → ltb A B ≡ false → HasValue (round binary32 (s && ltb B A) (A - B) c) (s && ltb b a) (a - b) (2 ^ 149)
        → HasValue (sum binary32 s A (not s) B c) (s && ltb b a) (a - b) (2 ^ 149)
    go true k v = pick (ltb A B) (round binary32 false (B - A) c) (round binary32 (true && ltb B A) (A - B) c) (true && ltb b a) k v
    go false k v = pick (ltb A B) (round binary32 true (B - A) c) (round binary32 (false && ltb B A) (A - B) c) (false && ltb b a) k v

pub sub_value : (x y : Float) (s : Bool) (a b q j : ℕ) → HasValue x s a (2 ^ 149) → HasValue y s b (2 ^ 149) → b ≤ a → q < 2 ^ 24 → a - b ≡ q * 2 ^ j → a < 2 ^ 277
    → HasValue (sub binary32 x y) (s && ltb b a) (a - b) (2 ^ 149)
unfolding sub add neg
sub_value nan y s a b q j v w h small g fine = absurd v
sub_value (inf t) y s a b q j v w h small g fine = absurd v
sub_value (fin t m e) nan s a b q j v w h small g fine = absurd w
sub_value (fin t m e) (inf u) s a b q j v w h small g fine = absurd w
sub_value (fin t m e) (fin u n d) s a b q j v w h small g fine =
    let L = 2 ^ 149 in
    let c = down e * down d in
    let A : m * up e * down d * L ≡ a * c = mul_right_comm (m * up e) (down d) L ∙ ap (λ (z : ℕ). z * down d) v.1 ∙ mul_assoc a (down e) (down d) in
    let B : n * up d * down e * L ≡ b * c = mul_right_comm (n * up d) (down e) L ∙ ap (λ (z : ℕ). z * down e) w.1 ∙ mul_assoc b (down d) (down e) ∙ ap (λ (z : ℕ). b * z) (mul_comm (down d) (down e)) in
    subst (λ (z : Bool). HasValue (sum binary32 z (m * up e * down d) (not u) (n * up d * down e) c) (s && ltb b a) (a - b) L) (sym v.0)
    (subst (λ (z : Bool). HasValue (sum binary32 s (m * up e * down d) (not z) (n * up d * down e) c) (s && ltb b a) (a - b) L) (sym w.0)
    (difference s (m * up e * down d) (n * up d * down e) c a b q j (mul-pos (down_pos e) (down_pos d)) A B h small g fine))

-- ---- the fraction
pub fraction_value : (x : Float) (s : Bool) (a : ℕ) → HasValue x s a (2 ^ 149) → Digits a → a ≤ 2 ^ 189 → HasValue (fraction x) (s && ltb 0 (a % 2 ^ 149)) (a % 2 ^ 149) (2 ^ 149)
fraction_value x s a v d h =
    let W = a / 2 ^ 149 * 2 ^ 149 in
    let r = rest_digits a d in
    let p : W + a % 2 ^ 149 ≡ a = div-add-mod' a (2 ^ 149) in
    let e : a - W ≡ a % 2 ^ 149 = omega arith in
    let le : W ≤ a = omega arith in
    let t : ltb W a ≡ ltb 0 (a % 2 ^ 149) = grind (arith, nat_tests) in
    subst (λ (z : Bool). HasValue (fraction x) (s && z) (a % 2 ^ 149) (2 ^ 149)) t
    (subst (λ (z : ℕ). HasValue (fraction x) (s && ltb W a) z (2 ^ 149)) e
    (sub_value x (trunc binary32 x) s a W r.0 r.1 v (trunc_value x s a v d h) le r.2 (e ∙ r.3) (omega arith)))

-- ---- whether the fraction counts as none
four_value : HasValue (of_bits binary32 4) false 4 (2 ^ 149)
unfolding of_bits
four_value = (refl, refl)

nought_value : HasValue nought false 0 (2 ^ 149)
unfolding of_bits
nought_value = (refl, refl)

-- no negative number is above zero
not_below : (f : Float) (r : ℕ) → HasValue f true r (2 ^ 149) → 0 < r → le nought f ≡ true → ⊥
unfolding le of_bits
not_below nan r v p h = absurd v
not_below (inf t) r v p h = absurd v
not_below (fin false n d) r v p h = absurd (false≢true v.0)
not_below (fin true n d) r v p h = grind (arith, zero-mul, eqb-true, and_parts, mul-one, mul-pos, down_pos)

pub whole_cases : (x : Float) (s : Bool) (a : ℕ) → HasValue x s a (2 ^ 149) → Digits a → a ≤ 2 ^ 189 → is_whole x ≡ true → (a % 2 ^ 149 ≡ 0) ⊎ ((s ≡ false) × (a % 2 ^ 149 ≤ 4))
whole_cases x true a v d h w = elim (eq-zero-or-pos (a % 2 ^ 149)) [
  | inl z ↦ inl z
  | inr p ↦
      let f = fraction_value x true a v d h in
      let g : HasValue (fraction x) true (a % 2 ^ 149) (2 ^ 149) = subst (λ (z : Bool). HasValue (fraction x) z (a % 2 ^ 149) (2 ^ 149)) (lt-ltb 0 (a % 2 ^ 149) p) f in
      absurd (not_below (fraction x) (a % 2 ^ 149) g p (and_parts (le nought (fraction x)) (le (fraction x) (of_bits binary32 4)) w).0)
]
whole_cases x false a v d h w =
    let f = fraction_value x false a v d h in
    inr (refl, grains_le (fraction x) (of_bits binary32 4) (a % 2 ^ 149) 4 f four_value (and_parts (le nought (fraction x)) (le (fraction x) (of_bits binary32 4)) w).1)

pub whole_if : (x : Float) (s : Bool) (a : ℕ) → HasValue x s a (2 ^ 149) → Digits a → a ≤ 2 ^ 189 → a % 2 ^ 149 ≡ 0 → is_whole x ≡ true
whole_if x s a v d h z =
    let f = fraction_value x s a v d h in
    let b : (s && ltb 0 (a % 2 ^ 149)) ≡ false = no_sign s (le-ltb 0 (a % 2 ^ 149) (le_of_eq z)) in
    let g : HasValue (fraction x) false 0 (2 ^ 149) = subst (λ (t : ℕ). HasValue (fraction x) false t (2 ^ 149)) z (subst (λ (t : Bool). HasValue (fraction x) t (a % 2 ^ 149) (2 ^ 149)) b f) in
    and_from (le nought (fraction x)) (le (fraction x) (of_bits binary32 4))
    (is_true (le nought (fraction x)) (le_grains nought (fraction x) 0 0 nought_value g (omega arith)))
    (is_true (le (fraction x) (of_bits binary32 4)) (le_grains (fraction x) (of_bits binary32 4) 0 4 g four_value (omega arith)))
  where
    no_sign : (s : Bool) {t : Bool} → t ≡ false → (s && t) ≡ false
    no_sign true e = e
    no_sign false e = refl
