-- The bare text of a float: the shortest decimal that reads back, the nearest of those, the larger of two as near.
use Rattle.std.specs.Prelude.{◌≡◌, ℕ, zero, suc, ◌+◌, ◌-◌, ◌*◌, ◌/◌, ◌%◌, ◌^◌, ◌<◌, ◌≤◌, Bool, cond, List, ◌==◌, nat_le, to_bits, Float}
use Rattle.std.specs.Float.Ieee.{round}
use Rattle.std.specs.Float.{is_sign_negative, binary32}
use Rattle.digits.specs.Decimals.{nearest_float, reads, units, places, Plain, spelling}
use Rattle.digits.specs.Magnitudes.{grains, apart}
use Rattle.digits.specs.Scaled.{chosen}

-- ---- the relation, over all decimals n / 10 ^ k

-- n, and so n / 10 ^ k, has at most t significant digits
abbrev pub Significant : ℕ → ℕ → Type 0
Significant t n = (m : ℕ) × (e : ℕ) × (m < 10 ^ t) × (n ≡ m * 10 ^ e)

-- how far n / 10 ^ k is from the float x, in 2 ^ -149ths of 10 ^ -k
abbrev pub away : Float → ℕ → ℕ → ℕ
away x n k = apart (n * 2 ^ 149) (grains x * 10 ^ k)

-- n / 10 ^ k is the shortest decimal that reads as x, the nearest of the shortest ones, and the largest of the nearest ones
pub record Shortest (x : Float) (n k : ℕ) : Type 0 where
  pub back : nearest_float (is_sign_negative x) n k ≡ x
  pub fewest : (n' k' t : ℕ) → nearest_float (is_sign_negative x) n' k' ≡ x → Significant t n' → Significant t n
  pub nearest : (n' k' : ℕ) → nearest_float (is_sign_negative x) n' k' ≡ x → ((t : ℕ) → Significant t n → Significant t n')
      → away x n k * 10 ^ k' ≤ away x n' k' * 10 ^ k
  pub larger : (n' k' : ℕ) → nearest_float (is_sign_negative x) n' k' ≡ x → ((t : ℕ) → Significant t n → Significant t n')
      → away x n k * 10 ^ k' ≡ away x n' k' * 10 ^ k → n' * 10 ^ k ≤ n * 10 ^ k'

-- the text bs is x shown bare
pub record Shows (x : Float) (bs : List ℕ) : Type 0 where
  pub plain : Plain bs
  pub back : reads bs ≡ x
  pub shortest : Shortest x (units bs) (places bs)

-- ---- the text itself, by a search of the places from 10 ^ 12 down to 10 ^ -16. The place i is worth 10 ^ (12 - i)

abbrev pub tens_above : ℕ → ℕ
tens_above i = 10 ^ (12 - i)

abbrev pub tens_below : ℕ → ℕ
tens_below i = 10 ^ (i - 12)

-- whether n units of the place i read as x
abbrev pub reads_as : Float → ℕ → ℕ → Bool
reads_as x n i = to_bits binary32 (round binary32 (is_sign_negative x) (n * tens_above i) (tens_below i)) == to_bits binary32 x

-- the units of the place i below x, and whether the next one up is as near or nearer
abbrev pub floor_at : Float → ℕ → ℕ
floor_at x i = grains x * tens_below i / (2 ^ 149 * tens_above i)

abbrev pub upper_half : Float → ℕ → Bool
upper_half x i = nat_le (2 ^ 149 * tens_above i) (2 * (grains x * tens_below i % (2 ^ 149 * tens_above i)))

-- the nearest units of the place i that read as x, and 0 if none do
abbrev pub best_at : Float → ℕ → ℕ
best_at x i = chosen (reads_as x (floor_at x i) i) (reads_as x (floor_at x i + 1) i) (upper_half x i) (floor_at x i)

-- the first place at which there are some, among d places after the place i, which has n
abbrev pub first_place : ℕ → ℕ → Float → ℕ → ℕ
first_place zero n x i = i
first_place (suc d) zero x i = first_place d (best_at x (suc i)) x (suc i)
first_place (suc d) (suc n) x i = i

abbrev pub coarsest : Float → ℕ
coarsest x = first_place 28 (best_at x 0) x 0

-- the units of that place, spelled out
abbrev pub shortest_text : Float → List ℕ
shortest_text x = let i = coarsest x in spelling (is_sign_negative x) (best_at x i * tens_above i) (i - 12)

-- a zero has no digits to search for
unfoldable pub bare : Float → List ℕ
bare x = cond (grains x == 0) (spelling (is_sign_negative x) 0 0) (shortest_text x)
