-- The theorem on `rounded`: its text is plain, and reads as a float that is close to the number.
use Rattle.std.proofs.Common.{◌≡◌, ℕ, zero, suc, ◌+◌, ◌-◌, ◌*◌, ◌/◌, ◌%◌, ◌^◌, ◌<◌, ◌≤◌, Bool, true, false, not, ◌&&◌, T, eqb, ◌⊎◌, List, sym, refl, ap, ◌∙◌, subst, inl, inr, le_trans, le_of_eq, mul-le-mul_right, mul_assoc, mul_comm, eq-zero-or-pos, mul-le-mul, mul-le-mul_left, div-add-mod', zero-mul, mul-one, mul_right_comm, div-one, arith, lit<, lit≤, pow_pos, pow-add}
use mathlib.Core.Bool.{beq}
use native.Mathlib.Nat.{eq_of_mul-eq-mul_right, pow-le-pow_right}
use lib.Ieee.{Float, nan, inf, fin, binary32, up, size, round, mul, eq, fits, of_bits}
use lib.Ieee.Exact.{HasValue}
use lib.Ieee.Fits.{div-fits}
use lib.Ieee.Order.{drop, kept, round_mono}
use lib.Ieee.Scale.{round_same}
use Rattle.std.proofs.lemmas.Bool.{cases_lt, cases_Bool, cond-true, ne_eqb, and_from, or_left, or_right}
use Rattle.std.specs.Float.{is_sign_negative, float_with_sign, float_round}
use Rattle.digits.specs.Decimals.{nearest_float}
use Rattle.digits.specs.Magnitudes.{grains, apart, nought, bare_domain, rounded_domain}
use Rattle.digits.specs.Bare.{bare}
use Rattle.digits.specs.Rounded.{power_of_ten, rounded_value, is_whole, whole_part, whole_text, rounded, distance, Close}
use Rattle.digits.specs.Theorems.{RoundedStands, RoundedWell}
use Rattle.digits.proofs.BareText.{bare_stands, zero_stays}
use Rattle.digits.proofs.Between.{size_past}
use Rattle.digits.proofs.ErrorBound.{Off, near_enough_high, near_enough_low}
use Rattle.digits.proofs.FewestDecimals.{fewest_decimals}
use Rattle.digits.proofs.Fractions.{Digits, float_digits, rest_small, whole_value, whole_cases, whole_if, exact}
use Rattle.digits.proofs.ReadsBack.{rounded_grains, one_size}
use Rattle.digits.proofs.Shortness.{apart_mul}
use Rattle.digits.proofs.Steps.{Stepped, stepped, product, to_whole, quotient, power_value}
use Rattle.digits.proofs.Texts.{spelling_plain, spelling_reads, spelling_says, ten_pos, whole_lowest}
use Rattle.digits.proofs.Values.{valued, grains_of, sign_of, unsigned_value, grains_le, le_grains, least_value, most_value, finite_in, at_most}
use lib.Ieee.Bits.{is_true}
use Rattle.std.proofs.lemmas.Float.{T_from_true}

-- ---- the three steps together
-- q is the rounded value in grains, a the number's, t the power of ten
pub record Steps (r : Float) (s : Bool) (a t : ℕ) : Type 0 where
  pub q : ℕ
  pub value : HasValue r s q (2 ^ 149)
  pub high : 2 ^ 21 * (q * t) ≤ 2 ^ 21 * (a * t) + 2 ^ 20 * 2 ^ 149 + a * t
  pub low : 2 ^ 21 * (a * t) ≤ 2 ^ 21 * (q * t) + 2 ^ 20 * 2 ^ 149 + a * t
  pub some : (q ≡ 0) ⊎ (11258999 * 2 ^ 99 ≤ q)
  -- the result is what some whole number over t reads as
  pub units : ℕ
  pub reads_units : r ≡ round binary32 s units t

-- where the product is rounded to zero
zero_low : (b g : ℕ) → Off b 1 g → 2 * g ≤ 2 ^ 149 → 2 ^ 21 * b ≤ 2 ^ 20 * 2 ^ 149 + b
zero_low b g x h = grind arith

zero_quotient : (q t : ℕ) → 0 < t → Off 0 t (q * t) → q ≡ 0
zero_quotient q t P x = grind arith

one_value : HasValue (round binary32 false 1 1) false (2 ^ 149) (2 ^ 149)
unfolding round
one_value = (refl, refl)

smallest_value : HasValue (round binary32 false 1 (10 ^ 8)) false (11258999 * 2 ^ 99) (2 ^ 149)
unfolding round
smallest_value = (refl, refl)

-- a whole number above zero stays above zero
one_kept : (R w : ℕ) → 0 < R → HasValue (round binary32 false R 1) false w (2 ^ 149) → 2 ^ 149 ≤ w
one_kept R w p v = grind (arith, grains_le, one_value, is_true, round_mono)

-- and its quotient by a power of ten is at least the smallest bare number
quotient_some : (num den w t q : ℕ) → 0 < den → t ≤ 10 ^ 8 → 2 ^ 149 ≤ w → num * 2 ^ 149 * t ≡ w * den → HasValue (round binary32 false num den) false q (2 ^ 149) → 11258999 * 2 ^ 99 ≤ q
quotient_some num den w t q D u h e v = grind (arith, mul-le-mul_right, mul-le-mul_left, grains_le, smallest_value, is_true, round_mono)

-- a whole number rounded to a float is a whole number
whole_kept : (s : Bool) (R : ℕ) → HasValue (round binary32 s R 1) s (rounded_grains R 1) (2 ^ 149) → R * 2 ^ 149 ≤ 2 ^ 220 → (w : ℕ) × (rounded_grains R 1 ≡ w * 2 ^ 149)
whole_kept s R v h = elim (cases_lt R (2 ^ 24)) [
  | inl l ↦ (R, one_size (round binary32 s R 1) s s (rounded_grains R 1) (R * 2 ^ 149) (2 ^ 149) v (exact s R 1 (R * 2 ^ 149) R 149 (lit< tt) l refl (omega arith) (sym (mul-one (R * 2 ^ 149)))))
  | inr l ↦
      let n = R * 2 ^ 149 in
      let k = drop 24 n 1 in
      let big : 2 ^ 173 ≤ n / 1 = subst (λ (z : ℕ). 2 ^ 173 ≤ z) (sym (div-one n)) (omega arith) in
      let d : 173 < size (n / 1) = size_past (n / 1) 173 big in
      let e : k ≡ k - 149 + 149 = omega arith in
      (kept 24 n 1 * 2 ^ (k - 149), ap (λ (z : ℕ). kept 24 n 1 * 2 ^ z) e ∙ ap (λ (z : ℕ). kept 24 n 1 * z) (pow-add 2 (k - 149) 149) ∙ sym (mul_assoc (kept 24 n 1) (2 ^ (k - 149)) (2 ^ 149)))
]

as_units : (s : Bool) (num den t g w : ℕ) → 0 < den → 0 < t → num * 2 ^ 149 * t ≡ g * den → g ≡ w * 2 ^ 149 → round binary32 s num den ≡ round binary32 s w t
as_units s num den t g w D P e f = grind (arith, mul_right_comm, round_same, eq_of_mul-eq-mul_right, pow_pos)

-- the last step, from the whole number R
finish : (s : Bool) (a t g R num den : ℕ) → 0 < t → t ≤ 10 ^ 8 → 0 < den → Off (a * t) 1 g → 2 * (R * 2 ^ 149) ≤ 2 * g + 2 ^ 149 → 2 * g ≤ 2 * (R * 2 ^ 149) + 2 ^ 149
    → (k : (w : ℕ) × (rounded_grains R 1 ≡ w * 2 ^ 149)) → Stepped s R 1 (R * 2 ^ 149) 1 → Off (R * 2 ^ 149) 1 (rounded_grains R 1) → num * 2 ^ 149 * t ≡ rounded_grains R 1 * den → Stepped s num den (rounded_grains R 1) t → Steps (round binary32 s num den) s a t
finish s a t g zero num den P u D x up dn k y yo e z = grind (arith, rounded_grains, zero_stays, zero_quotient, zero_low, zero-mul, as_units)
finish s a t g (suc R) num den P u D x up dn k y yo e z = grind (arith, rounded_grains, one_kept, near_enough_high, near_enough_low, quotient_some, as_units)

off_one : (b g : ℕ) → Off b 1 (g * 1) → Off b 1 g
off_one b g x = grind arith

pub all_steps : (x : Float) (s : Bool) (a p : ℕ) → HasValue x s a (2 ^ 149) → a ≤ 2 ^ 189 → p ≤ 8 → Steps (rounded_value p x) s a (10 ^ p)
all_steps x s a p v h l =
    let t = 10 ^ p in
    let T : 0 < t = ten_pos p in
    let u : t ≤ 10 ^ 8 = pow-le-pow_right {n = 10} (lit< tt) l in
    let ten = power_value p l in
    let f1 = product x (power_of_ten p) s a t v ten in
    let b1 : a * t ≤ 2 ^ 189 * 10 ^ 8 = mul-le-mul h u in
    let s1 = stepped s f1.num f1.den (a * t) 1 f1.some (lit< tt) (lit≤ tt) (omega arith) f1.ratio in
    let g = rounded_grains f1.num f1.den in
    let v1 : HasValue (mul binary32 x (power_of_ten p)) s g (2 ^ 149) = subst (λ (z : Float). HasValue z s g (2 ^ 149)) (sym f1.is) s1.value in
    let o1 = off_one (a * t) g s1.off_by in
    let y = mul binary32 x (power_of_ten p) in
    let w = to_whole y s g v1 in
    let R = w.number in
    let r1 = o1.high in
    let wa = w.not_above in
    let b2 : R * 2 ^ 149 ≤ 2 ^ 219 = omega arith in
    let s2 = stepped s R 1 (R * 2 ^ 149) 1 (lit< tt) (lit< tt) (lit≤ tt) (omega arith) refl in
    let o2 = off_one (R * 2 ^ 149) (rounded_grains R 1) s2.off_by in
    let v2 : HasValue (float_round binary32 y) s (rounded_grains R 1) (2 ^ 149) = subst (λ (z : Float). HasValue z s (rounded_grains R 1) (2 ^ 149)) (sym w.is) s2.value in
    let f3 = quotient (float_round binary32 y) (power_of_ten p) s (rounded_grains R 1) t T v2 ten in
    let r2 = o2.high in
    let b3 : rounded_grains R 1 ≤ 2 ^ 220 = omega arith in
    let s3 = stepped s f3.num f3.den (rounded_grains R 1) t f3.some T u b3 f3.ratio in
    subst (λ (z : Float). Steps z s a t) {x = round binary32 s f3.num f3.den} {y = rounded_value p x} (sym {a = rounded_value p x} {b = round binary32 s f3.num f3.den} f3.is)
    (finish s a t g R f3.num f3.den T u f3.some o1 w.not_above w.not_below (whole_kept s R s2.value (omega arith)) s2 o2 f3.ratio s3)

-- ---- the rounded value can be shown bare
pub zero_equals : (x : Float) (s : Bool) → HasValue x s 0 (2 ^ 149) → eq x nought ≡ true
unfolding eq of_bits
zero_equals nan s v = absurd v
zero_equals (inf t) s v = absurd v
zero_equals (fin t m e) s v = grind arith

not_huge : (a q t : ℕ) → 0 < t → a < 2 ^ 172 → 2 ^ 21 * (q * t) ≤ 2 ^ 21 * (a * t) + 2 ^ 20 * 2 ^ 149 + a * t → q ≤ 2 ^ 189
not_huge a q t P h k = grind arith

pub steps_domain : (r : Float) (s : Bool) (a t : ℕ) → 0 < t → a < 2 ^ 172 → Steps r s a t → bare_domain r ≡ true
steps_domain r s a t P h k = grind (arith, unsigned_value, and_from, float_with_sign, is_true, le_grains, most_value, not_huge, or_left, zero_equals, or_right, least_value)

-- ---- distances
same_side : (s : Bool) → beq s s ≡ true
same_side true = refl
same_side false = refl

pub distance_same : (x y : Float) (s : Bool) (a b : ℕ) → HasValue x s a (2 ^ 149) → HasValue y s b (2 ^ 149) → distance x y ≡ apart a b
distance_same x y s a b v w = grind (arith, is_sign_negative, sign_of, same_side, cond-true, grains_of)

distance_zero : (x y : Float) (s t : Bool) (a : ℕ) → HasValue x s a (2 ^ 149) → HasValue y t 0 (2 ^ 149) → distance x y ≡ a
distance_zero x y s t a v w = grind (arith, is_sign_negative, grains_of)

-- what is close, from the errors of the steps
close_enough : (D A Q t : ℕ) → D * t ≡ A - Q + (Q - A) → 2 ^ 21 * Q ≤ 2 ^ 21 * A + 2 ^ 20 * 2 ^ 149 + A → 2 ^ 21 * A ≤ 2 ^ 21 * Q + 2 ^ 20 * 2 ^ 149 + A → 2 ^ 21 * (D * t) ≤ 2 ^ 20 * 2 ^ 149 + A
close_enough D A Q t e h l = omega arith

regroup : (c t D : ℕ) → c * t * D ≡ c * (D * t)
regroup c t D = grind arith

pub steps_close : (x r : Float) (s : Bool) (a p : ℕ) → HasValue x s a (2 ^ 149) → Steps r s a (10 ^ p) → Close p x r
steps_close x r s a p v k =
    let t = 10 ^ p in
    let q = k.q in
    let d = distance_same x r s a q v k.value in
    let c = close_enough (apart a q) (a * t) (q * t) t (sym (apart_mul a q t)) k.high k.low in
    le_trans (le_of_eq (regroup (2 ^ 21) t (distance x r) ∙ ap (λ (z : ℕ). 2 ^ 21 * (z * t)) d))
    (le_trans c (le_of_eq (ap (λ (z : ℕ). 2 ^ 20 * 2 ^ 149 + z) (mul_comm a t ∙ ap (λ (z : ℕ). t * z) (sym (grains_of x s a v))))))

-- a fraction of at most four grains makes no difference
grains_close : (x y : Float) (p r : ℕ) → p ≤ 8 → distance x y ≡ r → r ≤ 4 → Close p x y
grains_close x y p r l d h =
    let u : 10 ^ p ≤ 10 ^ 8 = pow-le-pow_right {n = 10} (lit< tt) l in
    let m : 10 ^ p * distance x y ≤ 10 ^ 8 * 4 = mul-le-mul u (le_trans (le_of_eq d) h) in
    let e = mul_assoc (2 ^ 21) (10 ^ p) (distance x y) in
    let f : 2 ^ 21 * 10 ^ p * distance x y ≤ 2 ^ 20 * 2 ^ 149 = omega arith in
    le_trans f (omega arith)

-- ---- a whole number
whole_small : (a : ℕ) → a ≤ 2 ^ 189 → a / 2 ^ 149 < 2 ^ 41
whole_small a h = omega arith

whole_close : (x : Float) (s : Bool) (a p : ℕ) → HasValue x s a (2 ^ 149) → Digits a → a ≤ 2 ^ 189 → p ≤ 8 → a % 2 ^ 149 ≤ 4
    → Close p x (round binary32 (s && not (eqb (a / 2 ^ 149) 0)) (a / 2 ^ 149) 1)
whole_close x s a p v d h l r = elim (eq-zero-or-pos (a / 2 ^ 149)) [
  | inl z ↦
      let y = round binary32 (s && not (eqb (a / 2 ^ 149) 0)) (a / 2 ^ 149) 1 in
      let w : HasValue y (s && not (eqb (a / 2 ^ 149) 0)) 0 (2 ^ 149) =
      subst (λ (n : ℕ). HasValue y (s && not (eqb (a / 2 ^ 149) 0)) n (2 ^ 149)) (ap (λ (n : ℕ). n * 2 ^ 149) z) (whole_value (s && not (eqb (a / 2 ^ 149) 0)) a d h) in
      let m : a ≤ 4 = omega arith in
      grains_close x y p a l (distance_zero x y s (s && not (eqb (a / 2 ^ 149) 0)) a v w) m
  | inr q ↦
      let e : (s && not (eqb (a / 2 ^ 149) 0)) ≡ s = keep s (ap not (ne_eqb (a / 2 ^ 149) 0 (λ z. omega arith))) in
      let y = round binary32 s (a / 2 ^ 149) 1 in
      let b = a / 2 ^ 149 * 2 ^ 149 in
      let m : b + a % 2 ^ 149 ≡ a = div-add-mod' a (2 ^ 149) in
      let f : apart a b ≡ a % 2 ^ 149 = omega arith in
      subst (λ (z : Bool). Close p x (round binary32 z (a / 2 ^ 149) 1)) (sym e)
      (grains_close x y p (a % 2 ^ 149) l (distance_same x y s a b v (whole_value s a d h) ∙ f) r)
]
  where
    keep : (s : Bool) {t : Bool} → t ≡ true → (s && t) ≡ s
    keep true e = e
    keep false e = refl

-- ---- the theorem
pub rounded_whole : (p : ℕ) (x : Float) → is_whole x ≡ true → rounded p x ≡ whole_text x
unfolding rounded
rounded_whole p x e = grind arith

pub rounded_other : (p : ℕ) (x : Float) → is_whole x ≡ false → rounded p x ≡ bare (rounded_value p x)
unfolding rounded
rounded_other p x e = grind arith

whole_stands : (x : Float) (p : ℕ) → T (fits binary32 x) → rounded_domain x ≡ true → p ≤ 8 → is_whole x ≡ true → RoundedWell p x (whole_text x)
whole_stands x p f h l w =
    let fin_x = finite_in x h in
    let v = valued x f fin_x in
    let d = float_digits x f fin_x in
    let a = grains x in
    let s = is_sign_negative x in
    let b = at_most x s a v h in
    let W = whole_part x in
    let t = s && not (eqb W 0) in
    let n : W < 2 ^ 64 = (let k = whole_small a b in omega arith) in
    let r : a % 2 ^ 149 ≤ 4 = elim (whole_cases x s a v d b w) [ inl z ↦ omega arith | inr q ↦ q.1 ] in
    let says = (spelling_says t W 0 n (whole_lowest W)).places_are in
    record {
      plain = spelling_plain t W 0 n (whole_lowest W);
      decimals = subst (λ (z : ℕ). z ≤ p) (sym says) (omega arith);
      close = subst (λ (z : Float). Close p x z) (sym (spelling_reads t W 0 n (whole_lowest W))) (whole_close x s a p v d b l r);
    }

-- what is not whole can be shown bare once it is rounded
pub other_domain : (x : Float) (p : ℕ) → T (fits binary32 x) → rounded_domain x ≡ true → p ≤ 8 → is_whole x ≡ false → bare_domain (rounded_value p x) ≡ true
other_domain x p f h l w =
    let fin_x = finite_in x h in
    let v = valued x f fin_x in
    let d = float_digits x f fin_x in
    let b = at_most x (is_sign_negative x) (grains x) v h in
    let n : grains x % 2 ^ 149 ≡ 0 → ⊥ = λ z. mathlib.Core.Bool.true≢false (sym (whole_if x (is_sign_negative x) (grains x) v d b z) ∙ w) in
    steps_domain (rounded_value p x) (is_sign_negative x) (grains x) (10 ^ p) (ten_pos p) (rest_small (grains x) d n) (all_steps x (is_sign_negative x) (grains x) p v b l)

other_stands : (x : Float) (p : ℕ) → T (fits binary32 x) → rounded_domain x ≡ true → p ≤ 8 → is_whole x ≡ false → RoundedWell p x (bare (rounded_value p x))
other_stands x p f h l w =
    let v = valued x f (finite_in x h) in
    let b = at_most x (is_sign_negative x) (grains x) v h in
    let r = rounded_value p x in
    let g : fits binary32 r ≡ true = is_true (fits binary32 r) (div-fits binary32 (float_round binary32 (mul binary32 x (power_of_ten p))) (power_of_ten p)) in
    let dom = other_domain x p f h l w in
    let k = (bare_stands r g dom).0 in
    let st = all_steps x (is_sign_negative x) (grains x) p v b l in
    let sg : is_sign_negative r ≡ is_sign_negative x = sign_of r (is_sign_negative x) st.q (2 ^ 149) st.value in
    let back : nearest_float (is_sign_negative r) st.units p ≡ r = ap (λ (z : Bool). nearest_float z st.units p) sg ∙ sym st.reads_units in
    record {
      plain = k.plain;
      decimals = fewest_decimals r (T_from_true _ g) dom st.units p back;
      close = subst (λ (z : Float). Close p x z) (sym k.back) (steps_close x r (is_sign_negative x) (grains x) p v st);
    }

pub rounded_stands : RoundedStands
rounded_stands x p f h l =
    let q : T (fits binary32 x) = T_from_true _ f in
    elim (cases_Bool (is_whole x)) [
      | inl w ↦ subst (λ (z : List ℕ). RoundedWell p x z) (sym (rounded_whole p x w)) (whole_stands x p q h l w)
      | inr w ↦ subst (λ (z : List ℕ). RoundedWell p x z) (sym (rounded_other p x w)) (other_stands x p q h l w)
    ]
