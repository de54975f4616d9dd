-- A float taken apart, and the whole numbers in which the places of its decimals are searched.
use Rattle.std.specs.Prelude.{◌≡◌, ℕ, ◌+◌, ◌-◌, ◌*◌, ◌/◌, ◌%◌, ◌^◌, ◌<◌, ◌≤◌, Bool, cond, not, ◌&&◌, ◌||◌, T, ◌==◌, nat_le, nat_lt, Float}
use Rattle.std.specs.Float.{binary32}
use Rattle.std.specs.Float.Ieee.{fits}
use Rattle.std.specs.Float.Ieee.Exact.{HasValue}

-- x is M * 2 ^ j of 2 ^ -149ths, where M has all of its 24 binary digits
pub record Parts (x : Float) (s : Bool) (M j : ℕ) : Type 0 where
  pub fit : T (fits binary32 x)
  pub value : HasValue x s (M * 2 ^ j) (2 ^ 149)
  pub full : 2 ^ 23 ≤ M
  pub short : M < 2 ^ 24
  pub above : 99 ≤ j
  pub below : j ≤ 166

-- The place i is worth 10 ^ (12 - i). In one scale that makes both whole, the float is M times its `gap`,
-- the distance to the next float, and a decimal of that place is a multiple of its `step`.
abbrev pub gap : ℕ → ℕ → ℕ
gap j i = 2 ^ (j - 149) * 10 ^ (i - 12)

abbrev pub step : ℕ → ℕ → ℕ
step j i = 2 ^ (149 - j) * 10 ^ (12 - i)

-- Whether n reads back as the float M * u of gap u: it is at most half a gap away, just half a gap only where M is even,
-- and below a power of two a quarter, since the floats there are twice as close.
abbrev pub within : ℕ → ℕ → ℕ → Bool
within M n u =
    cond (M % 2 == 0) (nat_le (2 * n) (2 * (M * u) + u)) (nat_lt (2 * n) (2 * (M * u) + u))
    && cond (M == 8388608) (nat_le (4 * (M * u)) (4 * n + u)) (cond (M % 2 == 0) (nat_le (2 * (M * u)) (2 * n + u)) (nat_lt (2 * (M * u)) (2 * n + u)))

-- Of n and n + 1 the one that reads back. Where both do, n + 1 if it is as near or nearer; where none does, 0.
abbrev pub chosen : Bool → Bool → Bool → ℕ → ℕ
chosen low high half n = cond (high && (half || not low)) (n + 1) (cond low n 0)

-- the units of a place with the step v that read back as the float M * u, the nearest ones, and 0 if there are none
abbrev pub units_at : ℕ → ℕ → ℕ → ℕ
units_at M u v = chosen (within M (M * u - M * u % v) u) (within M (M * u - M * u % v + v) u) (nat_le v (2 * (M * u % v))) (M * u / v)

-- The search of the places from 0 on ends at the place i with n units: they read back as the float M * 2 ^ j, and at no place
-- before i do any. The last place is 28.
pub record FirstUnits (M j n i : ℕ) : Type 0 where
  pub units : n ≡ units_at M (gap j i) (step j i)
  pub before : (k : ℕ) → k < i → units_at M (gap j k) (step j k) ≡ 0
  pub last : i ≤ 28
  pub none : n ≡ 0 → i ≡ 28
