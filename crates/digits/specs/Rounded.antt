-- The rounded text of a float at a precision, and how far from the float it may read back.
use Rattle.std.specs.Prelude.{ℕ, ◌+◌, ◌*◌, ◌/◌, ◌^◌, ◌≤◌, Bool, cond, not, ◌&&◌, List, pos, ◌==◌, from_bits, Float}
use Rattle.std.specs.Bool.{beq}
use Rattle.std.specs.Float.Ieee.{of_int, mul, div, sub, le}
use Rattle.std.specs.Float.{is_sign_negative, trunc, float_round, binary32}
use Rattle.digits.specs.Decimals.{spelling}
use Rattle.digits.specs.Magnitudes.{grains, nought, apart}
use Rattle.digits.specs.Bare.{bare}

-- 10 ^ p, which is an f32 for every precision
abbrev pub power_of_ten : ℕ → Float
power_of_ten p = of_int binary32 (pos (10 ^ p))

-- times 10 ^ p, to a whole number with halves away from zero, over 10 ^ p: three f32 operations
abbrev pub rounded_value : ℕ → Float → Float
rounded_value p x = div binary32 (float_round binary32 (mul binary32 x (power_of_ten p))) (power_of_ten p)

abbrev pub fraction : Float → Float
fraction x = sub binary32 x (trunc binary32 x)

-- whether the fraction is zero, or positive and at most 4 * 2 ^ -149
abbrev pub is_whole : Float → Bool
is_whole x = le nought (fraction x) && le (fraction x) (from_bits binary32 4)

-- the whole part of the magnitude
abbrev pub whole_part : Float → ℕ
whole_part x = grains x / 2 ^ 149

-- the whole part, with a minus unless it is zero
abbrev pub whole_text : Float → List ℕ
whole_text x = spelling (is_sign_negative x && not (whole_part x == 0)) (whole_part x) 0

unfoldable pub rounded : ℕ → Float → List ℕ
rounded p x = cond (is_whole x) (whole_text x) (bare (rounded_value p x))

-- how far two finite floats are apart, in 2 ^ -149ths
abbrev pub distance : Float → Float → ℕ
distance x y = cond (beq (is_sign_negative x) (is_sign_negative y)) (apart (grains x) (grains y)) (grains x + grains y)

-- y differs from x by at most half of 10 ^ -p and the magnitude of x over 2 ^ 21, all times 2 ^ 21 * 10 ^ p
abbrev pub Close : ℕ → Float → Float → Type 0
Close p x y = 2 ^ 21 * 10 ^ p * distance x y ≤ 2 ^ 20 * 2 ^ 149 + 10 ^ p * grains x
