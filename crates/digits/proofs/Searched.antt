-- The search of places in the definition of `bare` and the one in the code's whole numbers find the same units at every place.
use Rattle.std.proofs.Common.{◌≡◌, ℕ, zero, suc, ◌+◌, ◌-◌, ◌*◌, ◌/◌, ◌%◌, ◌^◌, ◌<◌, ◌≤◌, Bool, true, T, eqb, leb, sym, refl, ap, ◌∙◌, subst, mul-le-mul_right, mod-lt, mul_assoc, mul_comm, add-mul, mul-lt-mul_of_pos_right, one-mul, div-add-mod', le_of_mul-le-mul_right, arith, pow_pos, pow-add, below_more}
use native.Mathlib.Nat.{mul-div-mul_right}
use lib.Arith.{digits_mod}
use lib.Ieee.{Float, binary32, round, to_bits, of_bits, fits}
use lib.Ieee.Bits.{of_bits-to_bits}
use lib.Ieee.Fits.{round-fits}
use Rattle.std.proofs.lemmas.Bool.{eqb-true, leb-true, le-leb}
use Rattle.std.proofs.lemmas.Bool.Decides.{same_from_decides}
use Rattle.std.specs.Float.{is_sign_negative}
use Rattle.digits.specs.Magnitudes.{grains}
use Rattle.digits.specs.Bare.{tens_above, tens_below, reads_as, floor_at, upper_half, best_at, first_place, coarsest}
use Rattle.digits.specs.Scaled.{Parts, within, gap, step, units_at, chosen, FirstUnits}
use Rattle.digits.proofs.PlaceUnits.{common_power, gap_scaled, within_reads, reads_within, floor_multiple, step_pos}
use Rattle.digits.proofs.Values.{grains_of, sign_of}

-- the first place i at which n units read back as x, in the code's whole numbers
pub record Found (x : Float) (s : Bool) (M j n i : ℕ) : Type 0 where
  pub parts : Parts x s M j
  pub first : FirstUnits M j n i

-- ---- equal tests
pub same_float : (x y : Float) → T (fits binary32 x) → T (fits binary32 y) → eqb (to_bits binary32 x) (to_bits binary32 y) ≡ true → x ≡ y
same_float x y p q e = grind (arith, of_bits-to_bits, of_bits, eqb-true, to_bits)

same_bits : (x y : Float) → x ≡ y → eqb (to_bits binary32 x) (to_bits binary32 y) ≡ true
same_bits x y e = grind arith

reads_as_within : (x : Float) (s : Bool) (M j n i : ℕ) → Parts x s M j → reads_as x n i ≡ within M (n * step j i) (gap j i)
reads_as_within x s M j n i p =
    let r = round binary32 (is_sign_negative x) (n * tens_above i) (tens_below i) in
    let g : is_sign_negative x ≡ s = sign_of x s (M * 2 ^ j) (2 ^ 149) p.value in
    let there : reads_as x n i ≡ true → within M (n * step j i) (gap j i) ≡ true =
    λ e. reads_within x s M j n i p (ap (λ (t : Bool). round binary32 t (n * tens_above i) (tens_below i)) (sym g) ∙ same_float r x (round-fits binary32 (is_sign_negative x) (n * tens_above i) (tens_below i)) p.fit e) in
    let back : within M (n * step j i) (gap j i) ≡ true → reads_as x n i ≡ true =
    λ e. same_bits r x (ap (λ (t : Bool). round binary32 t (n * tens_above i) (tens_below i)) g ∙ within_reads x s M j n i p e) in
    same_from_decides {P = within M (n * step j i) (gap j i) ≡ true} (reads_as x n i) (within M (n * step j i) (gap j i)) (there, back) (λ e. e, λ e. e)

-- ---- one scale
pub step_scale : (i j : ℕ) → 2 ^ 149 * tens_above i ≡ step j i * 2 ^ common_power j
step_scale i j =
    let e : 149 ≡ 149 - j + common_power j = omega arith in
    ap (λ (z : ℕ). 2 ^ z * tens_above i) e ∙ ap (λ (z : ℕ). z * tens_above i) (pow-add 2 (149 - j) (common_power j)) ∙ swap (2 ^ (149 - j)) (2 ^ common_power j) (tens_above i)
  where
    swap : (a b c : ℕ) → a * b * c ≡ a * c * b
    swap a b c = native.Mathlib.Nat.mul_right_comm a b c

pub grains_scale : (x : Float) (s : Bool) (M j i : ℕ) → Parts x s M j → grains x * tens_below i ≡ M * gap j i * 2 ^ common_power j
grains_scale x s M j i p =
    ap (λ (z : ℕ). z * tens_below i) (grains_of x s (M * 2 ^ j) p.value)
    ∙ mul_assoc M (2 ^ j) (tens_below i)
    ∙ ap (λ (z : ℕ). M * z) (mul_comm (2 ^ j) (tens_below i) ∙ gap_scaled i j)
    ∙ sym (mul_assoc M (gap j i) (2 ^ common_power j))

pub mod_scale : (a v G : ℕ) → 0 < v → 0 < G → a * G % (v * G) ≡ a % v * G
mod_scale a v G V P =
    let e : a * G ≡ a / v * (v * G) + a % v * G = ap (λ (z : ℕ). z * G) (sym (div-add-mod' a v)) ∙ add-mul (a / v * v) (a % v) G ∙ ap (λ (z : ℕ). z + a % v * G) (mul_assoc (a / v) v G) in
    ap (λ (z : ℕ). z % (v * G)) e ∙ digits_mod (a / v) {m = v * G} {r = a % v * G} (mul-lt-mul_of_pos_right (mod-lt a V) P)

leb_scale : (v r G : ℕ) → 0 < G → leb (v * G) (2 * (r * G)) ≡ leb v (2 * r)
leb_scale v r G P =
    let a = mul_assoc 2 r G in
    let there : leb (v * G) (2 * (r * G)) ≡ true → v ≤ 2 * r = λ e. le_of_mul-le-mul_right (subst (λ (z : ℕ). v * G ≤ z) (sym a) (leb-true (v * G) (2 * (r * G)) e)) P in
    let back : v ≤ 2 * r → leb (v * G) (2 * (r * G)) ≡ true = λ h. le-leb (v * G) (2 * (r * G)) (subst (λ (z : ℕ). v * G ≤ z) a (mul-le-mul_right G h)) in
    same_from_decides {P = v ≤ 2 * r} (leb (v * G) (2 * (r * G))) (leb v (2 * r)) (there, back) (leb-true v (2 * r), le-leb v (2 * r))

-- ---- the units of a place
pub best_is : (x : Float) (s : Bool) (M j i : ℕ) → Parts x s M j → best_at x i ≡ units_at M (gap j i) (step j i)
best_is x s M j i p =
    let u = gap j i in
    let v = step j i in
    let X = M * u in
    let G = 2 ^ common_power j in
    let P : 0 < G = pow_pos (common_power j) in
    let V = step_pos j i in
    let a = grains_scale x s M j i p in
    let b = step_scale i j in
    let floor : floor_at x i ≡ X / v = ap (λ (z : ℕ). z / (2 ^ 149 * tens_above i)) a ∙ ap (λ (z : ℕ). X * G / z) b ∙ mul-div-mul_right X v P in
    let rest : grains x * tens_below i % (2 ^ 149 * tens_above i) ≡ X % v * G = ap (λ (z : ℕ). z % (2 ^ 149 * tens_above i)) a ∙ ap (λ (z : ℕ). X * G % z) b ∙ mod_scale X v G V P in
    let half : upper_half x i ≡ leb v (2 * (X % v)) = ap (λ (z : ℕ). leb (2 ^ 149 * tens_above i) (2 * z)) rest ∙ ap (λ (z : ℕ). leb z (2 * (X % v * G))) b ∙ leb_scale v (X % v) G P in
    let under : floor_at x i * v ≡ X - X % v = ap (λ (z : ℕ). z * v) floor ∙ sym (floor_multiple X v) in
    let over : (floor_at x i + 1) * v ≡ X - X % v + v = add-mul (floor_at x i) 1 v ∙ ap (λ (z : ℕ). floor_at x i * v + z) (one-mul v) ∙ ap (λ (z : ℕ). z + v) under in
    let low : reads_as x (floor_at x i) i ≡ within M (X - X % v) u = reads_as_within x s M j (floor_at x i) i p ∙ ap (λ (z : ℕ). within M z u) under in
    let high : reads_as x (floor_at x i + 1) i ≡ within M (X - X % v + v) u = reads_as_within x s M j (floor_at x i + 1) i p ∙ ap (λ (z : ℕ). within M z u) over in
    ap (λ (z : Bool). chosen z (reads_as x (floor_at x i + 1) i) (upper_half x i) (floor_at x i)) low
    ∙ ap (λ (z : Bool). chosen (within M (X - X % v) u) z (upper_half x i) (floor_at x i)) high
    ∙ ap (λ (z : Bool). chosen (within M (X - X % v) u) (within M (X - X % v + v) u) z (floor_at x i)) half
    ∙ ap (λ (z : ℕ). chosen (within M (X - X % v) u) (within M (X - X % v + v) u) (leb v (2 * (X % v))) z) floor

-- ---- the first place
record First (x : Float) (end r : ℕ) : Type 0 where
  before : (k : ℕ) → k < r → best_at x k ≡ 0
  last : r ≤ end
  none : best_at x r ≡ 0 → r ≡ end

first_found : (d : ℕ) (x : Float) (i n : ℕ) → best_at x i ≡ n → ((k : ℕ) → k < i → best_at x k ≡ 0) → First x (i + d) (first_place d n x i)
first_found zero x i n e h = record { before = h; last = omega arith; none = λ z. omega arith }
first_found (suc d) x i zero e h =
    let q : suc i + d ≡ i + suc d = omega arith in
    let b : (k : ℕ) → k < i + 1 → best_at x k ≡ 0 = below_more (λ (k : ℕ). best_at x k ≡ 0) i h e in
    let b' : (k : ℕ) → k < suc i → best_at x k ≡ 0 = λ k l. b k (omega arith) in
    subst (λ (z : ℕ). First x z (first_place d (best_at x (suc i)) x (suc i))) q (first_found d x (suc i) (best_at x (suc i)) refl b')
first_found (suc d) x i (suc n) e h = record { before = h; last = omega arith; none = λ z. absurd (some n (sym e ∙ z)) }
  where
    some : (n : ℕ) → suc n ≡ 0 → ⊥
    some n z = omega arith

pub definition_found : (x : Float) (s : Bool) (M j : ℕ) → Parts x s M j → Found x s M j (best_at x (coarsest x)) (coarsest x)
definition_found x s M j p =
    let f : First x 28 (coarsest x) = first_found 28 x 0 (best_at x 0) refl (λ k h. absurd (omega arith)) in
    record {
      parts = p;
      first = record {
        units = best_is x s M j (coarsest x) p;
        before = λ k h. sym (best_is x s M j k p) ∙ f.before k h;
        last = f.last;
        none = f.none;
      };
    }

-- two searches that found something found the same
pub same_place : (x : Float) (s : Bool) (M j n i n' i' : ℕ) → Found x s M j n i → Found x s M j n' i' → i ≡ i'
same_place x s M j n i n' i' f g = grind arith

pub same_units : (x : Float) (s : Bool) (M j n i n' i' : ℕ) → Found x s M j n i → Found x s M j n' i' → n ≡ n'
same_units x s M j n i n' i' f g = f.first.units ∙ ap (λ (k : ℕ). units_at M (gap j k) (step j k)) (same_place x s M j n i n' i' f g) ∙ sym g.first.units
