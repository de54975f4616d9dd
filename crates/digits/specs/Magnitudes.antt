-- The size of a float in whole numbers, distances, and which floats can be shown.
use Rattle.std.specs.Prelude.{ℕ, ◌+◌, ◌-◌, ◌*◌, ◌/◌, ◌^◌, Bool, false, ◌&&◌, ◌||◌, from_bits, Float}
use Rattle.std.specs.Float.Ieee.{up, down, le, eq}
use Rattle.std.specs.Float.{float_with_sign, nan, inf, fin, binary32}

-- a finite f32 is a whole number of 2 ^ -149ths: how many, without the sign
unfoldable pub grains : Float → ℕ
grains nan = 0
grains (inf s) = 0
grains (fin s m e) = m * up e * 2 ^ 149 / down e

-- how far two numbers are apart
abbrev pub apart : ℕ → ℕ → ℕ
apart a b = a - b + (b - a)

-- 0
abbrev pub nought : Float
nought = from_bits binary32 0

-- the f32 nearest to 10 ^ -8, the smallest bare number above zero
abbrev pub least : Float
least = from_bits binary32 0x322BCC77

-- 2 ^ 40
abbrev pub most : Float
most = from_bits binary32 0x53800000

-- which floats are shown bare: zeros, and magnitudes from `least` to `most`
abbrev pub bare_domain : Float → Bool
bare_domain x = le (float_with_sign false x) most && (eq x nought || le least (float_with_sign false x))

-- which floats are shown rounded: finite, up to `most`
abbrev pub rounded_domain : Float → Bool
rounded_domain x = le (float_with_sign false x) most
