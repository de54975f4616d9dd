-- Cutting a float of the domain to its whole part: it can be done, and gives the whole part of the magnitude.
use Rattle.std.proofs.Common.{◌≡◌, ℕ, ◌*◌, ◌/◌, ◌^◌, ◌<◌, ◌≤◌, Bool, true, false, T, ℤ, pos, one-mul, arith, lt→ltb, pow_pos}
use mathlib.Core.Bool.{false≢true}
use lib.Ieee.{Float, nan, inf, fin, binary32, up, down, fits, of_bits, le, lt, to_unsigned}
use lib.Ieee.Exact.{HasValue}
use lib.Ieee.Fits.{down_pos}
use lib.Ieee.Nearest.{div_same}
use Rattle.std.specs.Float.{is_sign_negative, float_with_sign}
use Rattle.digits.specs.Magnitudes.{grains, rounded_domain}
use Rattle.digits.specs.Rounded.{whole_part}
use Rattle.digits.proofs.Values.{valued, finite_in, at_most}

pub above_minus_one : (x : Float) → rounded_domain x ≡ true → T (lt (fin true 1 (pos 0)) (float_with_sign false x))
unfolding float_with_sign le lt of_bits
above_minus_one nan h = absurd (false≢true h)
above_minus_one (inf s) h = absurd (false≢true h)
above_minus_one (fin s m e) h = grind (arith, down_pos, one-mul)

-- the whole part by the float's own fraction
own_whole : (m a : ℕ) (e : ℤ) → m * up e * 2 ^ 149 ≡ a * down e → m * up e / down e ≡ a / 2 ^ 149
own_whole m a e v = grind (arith, div_same, down_pos, pow_pos)

size_bound : (n d a : ℕ) → 0 < d → a ≤ 2 ^ 189 → n * 2 ^ 149 ≡ a * d → n * 1 < 2 ^ 64 * d
size_bound n d a D h v = grind arith

pub below_limit : (x : Float) (s : Bool) (a : ℕ) → HasValue x s a (2 ^ 149) → a ≤ 2 ^ 189 → T (lt (float_with_sign false x) (fin false 1 (pos 64)))
unfolding float_with_sign lt
below_limit nan s a v h = absurd v
below_limit (inf t) s a v h = absurd v
below_limit (fin t m e) s a v h = lt→ltb (m * up e * 1) (1 * 2 ^ 64 * down e) (size_bound (m * up e) (down e) a (down_pos e) h v.1)

pub cut_value : (x : Float) (s : Bool) (a : ℕ) → HasValue x s a (2 ^ 149) → a ≤ 2 ^ 189 → to_unsigned 64 (float_with_sign false x) ≡ a / 2 ^ 149
unfolding float_with_sign to_unsigned
cut_value nan s a v h = absurd v
cut_value (inf t) s a v h = absurd v
cut_value (fin t m e) s a v h = grind (arith, own_whole)

-- ---- for a float of the domain
pub limit_of : (x : Float) → T (fits binary32 x) → rounded_domain x ≡ true → T (lt (float_with_sign false x) (fin false 1 (pos 64)))
limit_of x p h = let v = valued x p (finite_in x h) in below_limit x (is_sign_negative x) (grains x) v (at_most x (is_sign_negative x) (grains x) v h)

pub cut_of : (x : Float) → T (fits binary32 x) → rounded_domain x ≡ true → to_unsigned 64 (float_with_sign false x) ≡ whole_part x
cut_of x p h = let v = valued x p (finite_in x h) in cut_value x (is_sign_negative x) (grains x) v (at_most x (is_sign_negative x) (grains x) v h)

pub whole_bound : (x : Float) → T (fits binary32 x) → rounded_domain x ≡ true → whole_part x < 2 ^ 41
whole_bound x p h = let v = valued x p (finite_in x h) in let b = at_most x (is_sign_negative x) (grains x) v h in omega arith
