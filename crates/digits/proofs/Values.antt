-- A finite f32 and its grains, the whole number of 2 ^ -149ths that it is; and the parts of a float that is shown bare.
use Rattle.std.proofs.Common.{◌≡◌, ℕ, zero, suc, ◌+◌, ◌-◌, ◌*◌, ◌/◌, ◌%◌, ◌^◌, ◌<◌, ◌≤◌, Bool, true, false, cond, not, ◌&&◌, ◌||◌, T, eqb, ltb, leb, sym, refl, ap, ◌∙◌, subst, inl, inr, le_trans, le_of_eq, mul-le-mul_right, mul_assoc, mul_comm, mul-le-mul_left, mul-pos, mul-one, mul_right_comm, le_of_mul-le-mul_right, mul-div_cancel, arith, pow_pos, pow_mono}
use lib.Ieee.{Float, nan, inf, fin, binary32, up, down, fits, to_bits, of_bits, of_fields, odd, le, is_nan}
use lib.Ieee.Bits.{of_bits-to_bits}
use lib.Ieee.Exact.{HasValue, odd_sign}
use lib.Ieee.Fits.{down_pos}
use lib.Ieee.Order.{le_of_values}
use lib.Ieee.Scale.{finite}
use Rattle.std.proofs.lemmas.Bool.{cases_lt}
use Rattle.std.proofs.lemmas.Bool.Decides.{nat_tests}
use Rattle.std.specs.Float.{is_sign_negative, float_with_sign}
use Rattle.digits.specs.Magnitudes.{grains, least, most}
use Rattle.digits.specs.Scaled.{Parts}

-- ---- the value by the fields of the bits
abbrev pub field_grains : ℕ → ℕ → ℕ
field_grains zero t = t
field_grains (suc k) t = (2 ^ 23 + t) * 2 ^ k

pub fields_value : (s : Bool) (F t : ℕ) → T (finite (of_fields binary32 s F t)) → HasValue (of_fields binary32 s F t) s (field_grains F t) (2 ^ 149)
unfolding of_fields
fields_value s zero t h = subst (λ (z : ℕ). HasValue (odd 24 s t 0 149) s z (2 ^ 149)) (mul-one t) (odd_sign 24 s t 0 149)
fields_value s (suc k) t h = go (eqb (suc k) 255) (eqb t 0) h
  where
    go : (b z : Bool) → T (finite (cond b (cond z (inf s) nan) (odd 24 s (2 ^ 23 + t) k 149))) → HasValue (cond b (cond z (inf s) nan) (odd 24 s (2 ^ 23 + t) k 149)) s ((2 ^ 23 + t) * 2 ^ k) (2 ^ 149)
    go true true q = absurd q
    go true false q = absurd q
    go false z q = odd_sign 24 s (2 ^ 23 + t) k 149

fields_of : (b : ℕ) → of_bits binary32 b ≡ of_fields binary32 (leb 2147483648 b) (b % 2147483648 / 8388608) (b % 8388608)
unfolding of_bits
fields_of b = refl

pub bits_value : (x : Float) → T (fits binary32 x) → T (finite x)
    → HasValue x (leb 2147483648 (to_bits binary32 x)) (field_grains (to_bits binary32 x % 2147483648 / 8388608) (to_bits binary32 x % 8388608)) (2 ^ 149)
bits_value x p h = grind (arith, to_bits, of_bits-to_bits, fields_of, of_fields, fields_value)

-- ---- the grains
pub grains_of : (x : Float) (s : Bool) (a : ℕ) → HasValue x s a (2 ^ 149) → grains x ≡ a
unfolding grains
grains_of nan s a v = absurd v
grains_of (inf t) s a v = absurd v
grains_of (fin t m e) s a v = grind (arith, mul-div_cancel, down_pos)

pub sign_of : (x : Float) (s : Bool) (a c : ℕ) → HasValue x s a c → is_sign_negative x ≡ s
unfolding is_sign_negative
sign_of nan s a c v = absurd v
sign_of (inf t) s a c v = absurd v
sign_of (fin t m e) s a c v = v.0

-- a value is that of the float's own sign and grains
pub own_value : (x : Float) (s : Bool) (a : ℕ) → HasValue x s a (2 ^ 149) → HasValue x (is_sign_negative x) (grains x) (2 ^ 149)
own_value x s a v = grind (arith, sign_of, grains_of)

pub valued : (x : Float) → T (fits binary32 x) → T (finite x) → HasValue x (is_sign_negative x) (grains x) (2 ^ 149)
valued x p h = grind (arith, own_value, to_bits, bits_value)

pub unsigned_value : (x : Float) (s : Bool) (a : ℕ) → HasValue x s a (2 ^ 149) → HasValue (float_with_sign false x) false a (2 ^ 149)
unfolding float_with_sign
unsigned_value nan s a v = absurd v
unsigned_value (inf t) s a v = absurd v
unsigned_value (fin t m e) s a v = (refl, v.1)

-- ---- the order of floats is that of the grains
below_le : (a b : ℕ) → (ltb a b || (eqb a b && true)) ≡ true → a ≤ b
below_le a b h = grind (arith, nat_tests)

pub grains_le : (x y : Float) (a b : ℕ) → HasValue x false a (2 ^ 149) → HasValue y false b (2 ^ 149) → le x y ≡ true → a ≤ b
unfolding le
grains_le nan y a b v w h = absurd v
grains_le (inf t) y a b v w h = absurd v
grains_le (fin t m e) nan a b v w h = absurd w
grains_le (fin t m e) (inf u) a b v w h = absurd w
grains_le (fin false m e) (fin false n d) a b v w h =
    let g : m * up e * down d ≤ n * up d * down e = below_le (m * up e * down d) (n * up d * down e) h in
    let L = 2 ^ 149 in
    let k : m * up e * down d * L ≤ n * up d * down e * L = mul-le-mul_right L g in
    let l : m * up e * down d * L ≡ a * (down e * down d) = mul_right_comm (m * up e) (down d) L ∙ ap (λ (z : ℕ). z * down d) v.1 ∙ mul_assoc a (down e) (down d) in
    let r : n * up d * down e * L ≡ b * (down e * down d) = mul_right_comm (n * up d) (down e) L ∙ ap (λ (z : ℕ). z * down e) w.1 ∙ mul_assoc b (down d) (down e) ∙ ap (λ (z : ℕ). b * z) (mul_comm (down d) (down e)) in
    le_of_mul-le-mul_right (le_trans (le_of_eq (sym l)) (le_trans k (le_of_eq r))) (mul-pos (down_pos e) (down_pos d))
grains_le (fin true m e) (fin u n d) a b v w h = absurd (wrong v.0)
  where
    wrong : true ≡ false → ⊥
    wrong e = mathlib.Core.Bool.true≢false e
grains_le (fin false m e) (fin true n d) a b v w h = absurd (mathlib.Core.Bool.true≢false w.0)

pub le_grains : (x y : Float) (a b : ℕ) → HasValue x false a (2 ^ 149) → HasValue y false b (2 ^ 149) → a ≤ b → T (le x y)
le_grains x y a b v w h = grind (arith, le_of_values, pow_pos, mul-le-mul_right)

pub least_value : HasValue least false (11258999 * 2 ^ 99) (2 ^ 149)
unfolding of_bits
least_value = (refl, refl)

pub most_value : HasValue most false (2 ^ 189) (2 ^ 149)
unfolding of_bits
most_value = (refl, refl)

-- ---- the domains
pub finite_in : (x : Float) → le (float_with_sign false x) most ≡ true → T (finite x)
unfolding float_with_sign le of_bits
finite_in nan h = grind arith
finite_in (inf s) h = grind arith
finite_in (fin s m e) h = tt

pub no_nan : (x : Float) → le (float_with_sign false x) most ≡ true → T (not (is_nan x))
unfolding float_with_sign le of_bits is_nan
no_nan nan h = grind arith
no_nan (inf s) h = tt
no_nan (fin s m e) h = tt

pub at_most : (x : Float) (s : Bool) (a : ℕ) → HasValue x s a (2 ^ 149) → le (float_with_sign false x) most ≡ true → a ≤ 2 ^ 189
at_most x s a v h = grind (arith, grains_le, float_with_sign, unsigned_value, most_value)

pub at_least : (x : Float) (s : Bool) (a : ℕ) → HasValue x s a (2 ^ 149) → le least (float_with_sign false x) ≡ true → 11258999 * 2 ^ 99 ≤ a
at_least x s a v h = grind (arith, grains_le, float_with_sign, least_value, unsigned_value)

-- ---- the parts
power_low : (k t : ℕ) → t < 2 ^ 23 → 11258999 * 2 ^ 99 ≤ (2 ^ 23 + t) * 2 ^ k → 99 ≤ k
power_low k t l h = grind (arith, cases_lt, mul-le-mul_left, pow_mono)

power_high : (k t : ℕ) → (2 ^ 23 + t) * 2 ^ k ≤ 2 ^ 189 → k ≤ 166
power_high k t h = elim (cases_lt 166 k) [
  | inl a ↦ let m : (2 ^ 23 + t) * 2 ^ 167 ≤ (2 ^ 23 + t) * 2 ^ k = mul-le-mul_left (2 ^ 23 + t) (pow_mono a) in absurd (omega arith)
  | inr a ↦ a
]

pub parts_of : (x : Float) → T (fits binary32 x) → le (float_with_sign false x) most ≡ true → le least (float_with_sign false x) ≡ true
    → Parts x (leb 2147483648 (to_bits binary32 x)) (8388608 + to_bits binary32 x % 8388608) (to_bits binary32 x % 2147483648 / 8388608 - 1)
parts_of x p h l = grind (arith, to_bits, bits_value, finite_in, at_least, power_low, power_high, at_most)
