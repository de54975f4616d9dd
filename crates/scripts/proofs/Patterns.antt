-- The bits of a NaN.
use Rattle.std.proofs.Common.{◌≡◌, ℕ, zero, suc, ◌/◌, ◌%◌, Bool, true, false, cond, not, ◌&&◌, eqb, leb, refl}
use mathlib.Core.Bool.{false≢true}
use lib.Ieee.{binary32, of_bits, of_fields, nan_bits, nan, inf, Float}
use Rattle.scripts.specs.Floats.{nan_pattern}

pub pattern_is : (bits : ℕ) → nan_bits binary32 bits ≡ nan_pattern bits
unfolding nan_bits
pattern_is bits = refl

-- the exponent all ones and a fraction other than 0
fields : (s : Bool) (x t : ℕ) → eqb x 255 && not (eqb t 0) ≡ true → of_fields binary32 s x t ≡ nan
unfolding of_fields
fields s zero t e = absurd (false≢true e)
fields s (suc x) t e = at (eqb (suc x) 255) (eqb t 0) _ e
  where
    at : (p q : Bool) (other : Float) → p && not q ≡ true → cond p (cond q (inf s) nan) other ≡ nan
    at true true other e = absurd (false≢true e)
    at true false other e = refl
    at false q other e = absurd (false≢true e)

pub pattern_nan : (bits : ℕ) → nan_pattern bits ≡ true → of_bits binary32 bits ≡ nan
unfolding of_bits
pattern_nan bits e = fields (leb 2147483648 bits) (bits % 2147483648 / 8388608) (bits % 8388608) e
