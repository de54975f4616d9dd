-- A fraction rounds to the float x just where it lies between the bounds of `Between`.
use Rattle.std.proofs.Common.{◌≡◌, ℕ, ◌+◌, ◌-◌, ◌*◌, ◌/◌, ◌^◌, ◌<◌, Bool, cond, T, sym, ◌∙◌, subst, lt_of_lt_of_le, mul-div_cancel, arith, pow_mono, shl_lt}
use native.Mathlib.Nat.{eq_of_mul-eq-mul_right}
use lib.Ieee.{Float, nan, inf, fin, Format, binary32, prec, low, size, units, round, fits, to_bits, of_bits, top, hid}
use lib.Ieee.Fits.{round_is, round-fits, down_pos}
use lib.Ieee.Exact.{HasValue, units_val}
use lib.Ieee.Bits.{of_bits-to_bits}
use lib.Ieee.Order.{drop, kept}
use Rattle.digits.specs.Scaled.{Parts}
use Rattle.digits.proofs.Between.{Inside, bounds_of, rounds_to}

-- ---- a value is written in one way
pub bits_of : (f : Format) (x : Float) (s : Bool) (a : ℕ) → HasValue x s a (2 ^ low f) → to_bits f x ≡ cond s (top f) 0 + (size a - prec f) * hid f + a / 2 ^ (size a - prec f)
unfolding to_bits
bits_of f nan s a v = absurd v
bits_of f (inf t) s a v = absurd v
bits_of f (fin t m e) s a v = grind (arith, mul-div_cancel, down_pos)

pub one_way : (f : Format) (x y : Float) (s : Bool) (a : ℕ) → T (fits f x) → T (fits f y) → HasValue x s a (2 ^ low f) → HasValue y s a (2 ^ low f) → x ≡ y
one_way f x y s a p q v w = grind (arith, of_bits-to_bits, of_bits, bits_of)

-- one number has one size
pub one_size : (x : Float) (s t : Bool) (a b c : ℕ) → HasValue x s a c → HasValue x t b c → a ≡ b
one_size nan s t a b c v w = absurd v
one_size (inf u) s t a b c v w = absurd v
one_size (fin u m e) s t a b c v w = grind (arith, eq_of_mul-eq-mul_right, down_pos)

-- ---- the rounded fraction, in units of the smallest value
abbrev pub rounded_grains : ℕ → ℕ → ℕ
rounded_grains a c = kept 24 (a * 2 ^ 149) c * 2 ^ drop 24 (a * 2 ^ 149) c

units_finite : (s : Bool) (q k : ℕ) (x : Float) (a : ℕ) → units binary32 s q k ≡ x → HasValue x s a (2 ^ 149) → q * 2 ^ k < 2 ^ 277
unfolding units
units_finite s q k x a = grind arith

pub grains_of_reads : (s : Bool) (num den : ℕ) (x : Float) (a : ℕ) → HasValue x s a (2 ^ 149) → round binary32 s num den ≡ x → rounded_grains num den ≡ a
grains_of_reads s num den x a v e =
    let q = kept 24 (num * 2 ^ 149) den in
    let k = drop 24 (num * 2 ^ 149) den in
    let u : units binary32 s q k ≡ x = sym (round_is binary32 s num den) ∙ e in
    one_size x s s (q * 2 ^ k) a (2 ^ 149) (subst (λ (z : Float). HasValue z s (q * 2 ^ k) (2 ^ 149)) u (units_val binary32 s q k (units_finite s q k x a u v))) v

pub reads_of_grains : (s : Bool) (num den : ℕ) (x : Float) (a : ℕ) → T (fits binary32 x) → HasValue x s a (2 ^ 149) → a < 2 ^ 277 → rounded_grains num den ≡ a → round binary32 s num den ≡ x
reads_of_grains s num den x a p v small e =
    let q = kept 24 (num * 2 ^ 149) den in
    let k = drop 24 (num * 2 ^ 149) den in
    one_way binary32 (round binary32 s num den) x s a (round-fits binary32 s num den) p
    (subst (λ (z : Float). HasValue z s a (2 ^ 149)) (sym (round_is binary32 s num den))
    (subst (λ (z : ℕ). HasValue (units binary32 s q k) s z (2 ^ 149)) e (units_val binary32 s q k (subst (λ (z : ℕ). z < 2 ^ 277) (sym e) small)))) v

above : {x : Float} {s : Bool} {M j : ℕ} → Parts x s M j → 0 < j
above p = grind arith

finite : {x : Float} {s : Bool} {M j : ℕ} → Parts x s M j → M * 2 ^ j < 2 ^ 277
finite {M = M} {j = j} p = grind (arith, lt_of_lt_of_le, shl_lt, pow_mono)

pub reads_back : (x : Float) (s : Bool) (M j num den : ℕ) → Parts x s M j → 0 < den → Inside M (num * 2 ^ 149) (den * 2 ^ j) (M * (den * 2 ^ j)) → round binary32 s num den ≡ x
reads_back x s M j num den p d i = grind (arith, reads_of_grains, finite, rounds_to, above)

pub inside : (x : Float) (s : Bool) (M j num den : ℕ) → Parts x s M j → 0 < den → round binary32 s num den ≡ x → Inside M (num * 2 ^ 149) (den * 2 ^ j) (M * (den * 2 ^ j))
inside x s M j num den p d e = bounds_of M j (num * 2 ^ 149) den d (above p) p.full p.short (grains_of_reads s num den x (M * 2 ^ j) p.value e)
