-- What the search finds is the shortest decimal that reads back, among all decimals the nearest of those, and the larger of two as near.
use Rattle.std.proofs.Common.{◌≡◌, ℕ, zero, suc, ◌+◌, ◌-◌, ◌*◌, ◌/◌, ◌%◌, ◌^◌, ◌<◌, ◌≤◌, Bool, true, sym, refl, ap, ◌∙◌, subst, inl, inr, le_trans, le_of_eq, mul-le-mul_right, mul_assoc, mul_comm, mul-le-mul, mul-le-mul_left, one-mul, pow-suc, div-add-mod', mul-one, mul_right_comm, arith, lit<, lit≤, pow_pos, pow_mono, pow-add}
use native.Mathlib.Nat.{mul-sub, eq_of_mul-eq-mul_right}
use lib.Ieee.{Float, binary32, round}
use lib.Ieee.Scale.{round_same}
use Rattle.std.proofs.lemmas.Bool.{cases_lt, cases_order}
use Rattle.std.specs.Float.{is_sign_negative}
use Rattle.digits.specs.Decimals.{nearest_float}
use Rattle.digits.specs.Magnitudes.{grains, apart}
use Rattle.digits.specs.Bare.{Significant, away, Shortest, tens_above, tens_below}
use Rattle.digits.specs.Scaled.{Parts, within, gap, step}
use Rattle.digits.proofs.Between.{Inside}
use Rattle.digits.proofs.Fewest.{fewest, finer, some, first, between_reads}
use Rattle.digits.proofs.NearestUnits.{nearest}
use Rattle.digits.proofs.PlaceUnits.{common_power, units_scaled, tests_inside, reads_within, none_before, result_some, result_reads, gap_pos, step_pos}
use Rattle.digits.proofs.Searched.{Found, grains_scale}
use Rattle.digits.proofs.SmallUnits.{small_units}
use Rattle.digits.proofs.Texts.{Lowest, ten_pos}
use Rattle.digits.proofs.Values.{sign_of}

-- ---- what was found
pub found_some : {x : Float} {s : Bool} {M j n i : ℕ} → Found x s M j n i → 0 < n
found_some {x} {s} {M} {j} {n} {i} f = result_some x s M j n i f.parts f.first.units f.first.none

pub found_reads : {x : Float} {s : Bool} {M j n i : ℕ} → Found x s M j n i → round binary32 s (n * tens_above i) (tens_below i) ≡ x
found_reads {x} {s} {M} {j} {n} {i} f = grind (arith, result_reads)

pub found_small : {x : Float} {s : Bool} {M j n i : ℕ} → Found x s M j n i → n < 10 ^ 9
found_small {x} {s} {M} {j} {n} {i} f = small_units x s M j n i f.parts f.first.units f.first.none f.first.before

-- at the places of whole numbers, nothing that reads back reaches 2 ^ 41
whole_small : (x : Float) (s : Bool) (M j w i : ℕ) → Parts x s M j → i ≤ 12 → round binary32 s (w * tens_above i) (tens_below i) ≡ x → w * tens_above i < 2 ^ 41
whole_small x s M j w i p h e =
    let u = gap j i in
    let v = step j i in
    let y = tests_inside M (w * v) u (M * u) (reads_within x s M j w i p e) in
    let hi = y.high in
    let M24 = p.short in
    let jb = p.below in
    let z : i - 12 ≡ 0 = omega arith in
    let a : j - 149 ≤ 17 = omega arith in
    let g : 2 ^ (j - 149) * 10 ^ (i - 12) ≤ 2 ^ 17 * 1 = mul-le-mul (pow_mono a) (le_of_eq (ap (λ (t : ℕ). 10 ^ t) z)) in
    let m : M * u ≤ 16777215 * u = mul-le-mul_right u (omega arith) in
    let o : w * (1 * tens_above i) ≤ w * v = mul-le-mul_left w (mul-le-mul_right (tens_above i) (pow_pos (149 - j))) in
    let q : w * (1 * tens_above i) ≡ w * tens_above i = ap (λ (t : ℕ). w * t) (one-mul (tens_above i)) in
    omega arith

-- the units as a decimal
pub found_bound : {x : Float} {s : Bool} {M j n i : ℕ} → Found x s M j n i → n * tens_above i < 2 ^ 41
found_bound {x} {s} {M} {j} {n} {i} f = elim (cases_lt 12 i) [
  | inr h ↦ whole_small x s M j n i f.parts h (found_reads f)
  | inl h ↦
      let z : 12 - i ≡ 0 = omega arith in
      let e : n * tens_above i ≡ n * 1 = ap (λ (t : ℕ). n * 10 ^ t) z in
      let l = found_small f in
      omega arith
]

-- no zero stands at the end of the units: without it they would read back at the place before
ends_low : {x : Float} {s : Bool} {M j n : ℕ} (i : ℕ) → Found x s M j n (suc i) → n % 10 ≡ 0 → ⊥
ends_low {x} {s} {M} {j} {n} i f z =
    let w = n / 10 in
    let e : w * 10 ≡ n = (let d = div-add-mod' n 10 in omega arith) in
    let k : suc i - i ≡ 1 = omega arith in
    let l : i ≤ suc i = omega arith in
    let h : i < suc i = omega arith in
    let b : round binary32 s (w * 10 ^ (suc i - i) * tens_above (suc i)) (tens_below (suc i)) ≡ x =
    ap (λ (t : ℕ). round binary32 s (w * 10 ^ t * tens_above (suc i)) (tens_below (suc i))) k
    ∙ ap (λ (t : ℕ). round binary32 s (t * tens_above (suc i)) (tens_below (suc i))) e
    ∙ found_reads f in
    none_before x s M j i w f.parts (f.first.before i h) (sym (finer s w i (suc i) l) ∙ b)

pub found_lowest : {x : Float} {s : Bool} {M j n : ℕ} (i : ℕ) → Found x s M j n i → Lowest (n * tens_above i) (i - 12)
found_lowest zero f h z = absurd (omega arith)
found_lowest {n = n} (suc i) f h z =
    let q : 12 - suc i ≡ 0 = omega arith in
    let e : n * tens_above (suc i) ≡ n * 1 = ap (λ (t : ℕ). n * 10 ^ t) q in
    let g : n % 10 ≡ 0 = ap (λ (t : ℕ). t % 10) (sym (mul-one n) ∙ sym e) ∙ z in
    ends_low i f g

-- ---- any decimal that reads back, at its own place
exponents : (e k : ℕ) → e ≤ 12 + k → e + (12 + k - e - 12) ≡ 12 - (12 + k - e) + k
exponents e k h = omega arith

-- m * 10 ^ e / 10 ^ k is m units of the place 12 + k - e
pub own_place : (m e k : ℕ) → e ≤ 12 + k → m * 10 ^ e * tens_below (12 + k - e) ≡ m * tens_above (12 + k - e) * 10 ^ k
own_place m e k h =
    let i = 12 + k - e in
    mul_assoc m (10 ^ e) (tens_below i)
    ∙ ap (λ (z : ℕ). m * z) (sym (pow-add 10 e (i - 12)) ∙ ap (λ (z : ℕ). 10 ^ z) (exponents e k h) ∙ pow-add 10 (12 - i) k)
    ∙ sym (mul_assoc m (tens_above i) (10 ^ k))

at_own_place : (s : Bool) (n k m e : ℕ) → n ≡ m * 10 ^ e → e ≤ 12 + k
    → round binary32 s (m * tens_above (12 + k - e)) (tens_below (12 + k - e)) ≡ nearest_float s n k
at_own_place s n k m e q h = grind (arith, round_same, tens_above, tens_below, ten_pos, own_place)

-- no decimal of a place above 10 ^ 12 reads back
above_all : (x : Float) (s : Bool) (M j n k m e : ℕ) → Parts x s M j → n ≡ m * 10 ^ e → 12 + k < e → nearest_float s n k ≡ x → ⊥
above_all x s M j n k m e p q h r =
    let d = e - (12 + k) - 1 in
    let w = m * 10 ^ suc d in
    let ex : e ≡ suc d + (12 + k) = omega arith in
    let val : w * 10 ^ 12 * 10 ^ k ≡ n * 1 =
    mul_assoc w (10 ^ 12) (10 ^ k) ∙ ap (λ (z : ℕ). w * z) (sym (pow-add 10 12 k)) ∙ mul_assoc m (10 ^ suc d) (10 ^ (12 + k))
    ∙ ap (λ (z : ℕ). m * z) (sym (pow-add 10 (suc d) (12 + k)) ∙ ap (λ (z : ℕ). 10 ^ z) (sym ex)) ∙ sym q ∙ sym (mul-one n) in
    let back : round binary32 s (w * tens_above 0) (tens_below 0) ≡ x = round_same binary32 s (w * 10 ^ 12) 1 n (10 ^ k) (lit< tt) (ten_pos k) val ∙ r in
    let pos : 0 < w = some x s M j w 0 p back in
    let small : w * 10 ^ 12 < 2 ^ 41 = whole_small x s M j w 0 p (lit≤ tt) back in
    let t : w ≡ m * 10 ^ d * 10 = ap (λ (z : ℕ). m * z) (pow-suc 10 d) ∙ sym (mul_assoc m (10 ^ d) 10) in
    omega arith

-- where a decimal that reads back has its digits
pub placed : (x : Float) (s : Bool) (M j n k m e : ℕ) → Parts x s M j → n ≡ m * 10 ^ e → nearest_float s n k ≡ x
    → (e ≤ 12 + k) × (round binary32 s (m * tens_above (12 + k - e)) (tens_below (12 + k - e)) ≡ x)
placed x s M j n k m e p q r = grind (arith, cases_lt, above_all, at_own_place)

-- ---- as few digits
found_fewest : {x : Float} {s : Bool} {M j n i : ℕ} → Found x s M j n i → (n' k' t : ℕ) → nearest_float s n' k' ≡ x → Significant t n' → Significant t (n * tens_above i)
found_fewest {x} {s} {M} {j} {n} {i} f n' k' t r g =
    let m = g.0 in
    let e = g.1 in
    let q = placed x s M j n' k' m e f.parts g.3 r in
    (n, 12 - i, fewest x s M j n i f.parts f.first.units f.first.none f.first.before m (12 + k' - e) t g.2 q.1, refl)

-- how many digits a number has, less one
digit_count : (b n : ℕ) → 0 < n → n < 10 ^ b → (t : ℕ) × (10 ^ t ≤ n) × (n < 10 ^ suc t)
digit_count zero n p h = absurd (omega arith)
digit_count (suc b) n p h = elim (cases_lt n (10 ^ b)) [ inl l ↦ digit_count b n p l | inr l ↦ (b, l, h) ]

-- two numbers of one place that read back are closer than one part in a million
single_digit : (M a b u v X : ℕ) → 2 ^ 23 ≤ M → X ≡ M * u → 0 < u → a ≤ 9 → 10 ≤ b → Inside M (a * v) u X → Inside M (b * v) u X → ⊥
single_digit M a b u v X full e U h k x y = grind arith

-- none with as few digits at a finer place: a power of ten would lie between, which reads back at a coarser place
finer_none : {x : Float} {s : Bool} {M j n : ℕ} (i : ℕ) → Found x s M j n i → (t m i' : ℕ) → 10 ^ t ≤ n → m < 10 ^ suc t → i < i'
    → round binary32 s (m * tens_above i') (tens_below i') ≡ x → ⊥
finer_none {x} {s} {M} {j} {n} i f zero m i' lo hi h r =
    let l : i ≤ i' = omega arith in
    let own : round binary32 s (n * 10 ^ (i' - i) * tens_above i') (tens_below i') ≡ x = finer s n i i' l ∙ found_reads f in
    let k : i' - i ≡ suc (i' - suc i) = omega arith in
    let p10 : 10 ^ (i' - i) ≡ 10 ^ (i' - suc i) * 10 = ap (λ (z : ℕ). 10 ^ z) k ∙ pow-suc 10 (i' - suc i) in
    let pp = ten_pos (i' - suc i) in
    let ten : 1 * 10 ^ (i' - i) ≤ n * 10 ^ (i' - i) = mul-le-mul_right (10 ^ (i' - i)) lo in
    let many : 10 ≤ n * 10 ^ (i' - i) = omega arith in
    let u = gap j i' in
    let v = step j i' in
    let p = f.parts in
    single_digit M m (n * 10 ^ (i' - i)) u v (M * u) p.full refl (gap_pos j i') (omega arith) many
    (tests_inside M (m * v) u (M * u) (reads_within x s M j m i' p r))
    (tests_inside M (n * 10 ^ (i' - i) * v) u (M * u) (reads_within x s M j (n * 10 ^ (i' - i)) i' p own))
finer_none {x} {s} {M} {j} {n} zero f (suc t) m i' lo hi h r =
    let l : n < 10 = first x s M j n f.parts f.first.units (found_some f) in
    let e = pow-suc 10 t in
    let q = ten_pos t in
    omega arith
finer_none {x} {s} {M} {j} {n} (suc i) f (suc t) m i' lo hi h r =
    let p = f.parts in
    let l : suc i ≤ i' = omega arith in
    let c : i ≤ i' = omega arith in
    let own : round binary32 s (n * 10 ^ (i' - suc i) * tens_above i') (tens_below i') ≡ x = finer s n (suc i) i' l ∙ found_reads f in
    let e1 : i' - suc i ≡ suc (i' - suc (suc i)) = omega arith in
    let e2 : i' - i ≡ suc (i' - suc i) = omega arith in
    let a : 10 ^ suc t * 10 ^ (i' - suc i) ≡ 10 ^ t * 10 ^ (i' - i) =
    sym (pow-add 10 (suc t) (i' - suc i)) ∙ ap (λ (z : ℕ). 10 ^ z) (sums t (i' - suc i) (i' - i) e2) ∙ pow-add 10 t (i' - i) in
    let hi' : 10 ^ suc t * 10 ^ (i' - suc i) ≤ n * 10 ^ (i' - suc i) = mul-le-mul_right (10 ^ (i' - suc i)) lo in
    let w : 10 ^ (i' - suc i) ≡ 10 ^ (i' - suc (suc i)) * 10 = ap (λ (z : ℕ). 10 ^ z) e1 ∙ pow-suc 10 (i' - suc (suc i)) in
    let big : 10 ^ suc t * 10 ≤ 10 ^ suc t * 10 ^ (i' - suc i) = mul-le-mul_left (10 ^ suc t) (let q = ten_pos (i' - suc (suc i)) in let g : 10 ≤ 10 ^ (i' - suc i) = omega arith in g) in
    let m' : m < 10 ^ suc t * 10 = subst (λ (z : ℕ). m < z) (pow-suc 10 (suc t)) hi in
    let mid : round binary32 s (10 ^ t * 10 ^ (i' - i) * tens_above i') (tens_below i') ≡ x =
    between_reads x s M j i' m (10 ^ t * 10 ^ (i' - i)) (n * 10 ^ (i' - suc i)) p (omega arith) (omega arith) r own in
    none_before x s M j i (10 ^ t) p (f.first.before i (omega arith)) (sym (finer s (10 ^ t) i i' c) ∙ mid)
  where
    sums : (t a b : ℕ) → b ≡ suc a → suc t + a ≡ t + b
    sums t a b e = omega arith

-- ---- the nearest one
pub sub_mul : (a b c : ℕ) → (a - b) * c ≡ a * c - b * c
sub_mul a b c = grind (arith, mul_comm, mul-sub)

pub apart_mul : (a b c : ℕ) → apart (a * c) (b * c) ≡ apart a b * c
apart_mul a b c = grind arith

-- the distance of w units of the place i, in the code's scale
place_away : (x : Float) (s : Bool) (M j w i : ℕ) → Parts x s M j → apart (w * tens_above i * 2 ^ 149) (grains x * tens_below i) ≡ apart (w * step j i) (M * gap j i) * 2 ^ common_power j
place_away x s M j w i p =
    ap (λ (z : ℕ). apart z (grains x * tens_below i)) (units_scaled w i j) ∙ ap (λ (z : ℕ). apart (w * step j i * 2 ^ common_power j) z) (grains_scale x s M j i p)
    ∙ apart_mul (w * step j i) (M * gap j i) (2 ^ common_power j)

-- the distance of another decimal at the same place
other_away : (x : Float) (n' k' m i : ℕ) → n' * tens_below i ≡ m * tens_above i * 10 ^ k'
    → away x n' k' * tens_below i ≡ apart (m * tens_above i * 2 ^ 149) (grains x * tens_below i) * 10 ^ k'
other_away x n' k' m i q =
    let D = tens_below i in
    let K = 10 ^ k' in
    let g = grains x in
    let L = 2 ^ 149 in
    sym (apart_mul (n' * L) (g * K) D)
    ∙ ap (λ (z : ℕ). apart z (g * K * D)) (mul_right_comm n' L D ∙ ap (λ (z : ℕ). z * L) q ∙ mul_right_comm (m * tens_above i) K L)
    ∙ ap (λ (z : ℕ). apart (m * tens_above i * L * K) z) (mul_right_comm g K D)
    ∙ apart_mul (m * tens_above i * L) (g * D) K

-- another decimal with as few digits that reads back stands at the same place
pub record Rival (s : Bool) (M j n i n' k' : ℕ) : Type 0 where
  pub there : ℕ
  pub within_there : within M (there * step j i) (gap j i) ≡ true
  pub same : n' * tens_below i ≡ there * tens_above i * 10 ^ k'

pub rival : {x : Float} {s : Bool} {M j n i : ℕ} → Found x s M j n i → (n' k' : ℕ) → nearest_float s n' k' ≡ x
    → ((t : ℕ) → Significant t (n * tens_above i) → Significant t n') → Rival s M j n i n' k'
rival {x} {s} {M} {j} {n} {i} f n' k' r few =
    let d = digit_count 9 n (found_some f) (found_small f) in
    let t = d.0 in
    let g = few (suc t) (n, 12 - i, d.2, refl) in
    let m = g.0 in
    let e = g.1 in
    let q = placed x s M j n' k' m e f.parts g.3 r in
    let i' = 12 + k' - e in
    let c : n' * tens_below i' ≡ m * tens_above i' * 10 ^ k' = ap (λ (z : ℕ). z * tens_below i') g.3 ∙ own_place m e k' q.0 in
    elim (cases_order i' i) [
      | inl o ↦ record {
        there = m;
        within_there = reads_within x s M j m i f.parts (subst (λ (z : ℕ). round binary32 s (m * tens_above z) (tens_below z) ≡ x) o q.1);
        same = subst (λ (z : ℕ). n' * tens_below z ≡ m * tens_above z * 10 ^ k') o c;
      }
      | inr (inl l) ↦ absurd (none_before x s M j i' m f.parts (f.first.before i' l) q.1)
      | inr (inr l) ↦ absurd (finer_none i f t m i' d.1 g.2 l q.1)
    ]

found_nearest : {x : Float} {s : Bool} {M j n i : ℕ} → Found x s M j n i → (n' k' : ℕ) → Rival s M j n i n' k'
    → away x (n * tens_above i) (i - 12) * 10 ^ k' ≤ away x n' k' * 10 ^ (i - 12)
found_nearest {x} {s} {M} {j} {n} {i} f n' k' q =
    let p = f.parts in
    let w = q.there in
    let G = 2 ^ common_power j in
    let b = nearest M (gap j i) (step j i) n w (gap_pos j i) (step_pos j i) f.first.units (found_some f) q.within_there in
    let l : apart (n * step j i) (M * gap j i) * G * 10 ^ k' ≤ apart (w * step j i) (M * gap j i) * G * 10 ^ k' = mul-le-mul_right (10 ^ k') (mul-le-mul_right G b.0) in
    let e1 : away x (n * tens_above i) (i - 12) * 10 ^ k' ≡ apart (n * step j i) (M * gap j i) * G * 10 ^ k' = ap (λ (z : ℕ). z * 10 ^ k') (place_away x s M j n i p) in
    let e2 : away x n' k' * 10 ^ (i - 12) ≡ apart (w * step j i) (M * gap j i) * G * 10 ^ k' = other_away x n' k' w i q.same ∙ ap (λ (z : ℕ). z * 10 ^ k') (place_away x s M j w i p) in
    le_trans (le_of_eq e1) (le_trans l (le_of_eq (sym e2)))

found_larger : {x : Float} {s : Bool} {M j n i : ℕ} → Found x s M j n i → (n' k' : ℕ) → Rival s M j n i n' k'
    → away x (n * tens_above i) (i - 12) * 10 ^ k' ≡ away x n' k' * 10 ^ (i - 12) → n' * 10 ^ (i - 12) ≤ n * tens_above i * 10 ^ k'
found_larger {x} {s} {M} {j} {n} {i} f n' k' q e =
    let p = f.parts in
    let w = q.there in
    let G = 2 ^ common_power j in
    let b = nearest M (gap j i) (step j i) n w (gap_pos j i) (step_pos j i) f.first.units (found_some f) q.within_there in
    let e1 : away x (n * tens_above i) (i - 12) * 10 ^ k' ≡ apart (n * step j i) (M * gap j i) * G * 10 ^ k' = ap (λ (z : ℕ). z * 10 ^ k') (place_away x s M j n i p) in
    let e2 : away x n' k' * 10 ^ (i - 12) ≡ apart (w * step j i) (M * gap j i) * G * 10 ^ k' = other_away x n' k' w i q.same ∙ ap (λ (z : ℕ). z * 10 ^ k') (place_away x s M j w i p) in
    let h : apart (n * step j i) (M * gap j i) ≡ apart (w * step j i) (M * gap j i) =
    eq_of_mul-eq-mul_right G (pow_pos (common_power j)) (apart (n * step j i) (M * gap j i)) (apart (w * step j i) (M * gap j i))
    (eq_of_mul-eq-mul_right (10 ^ k') (ten_pos k') (apart (n * step j i) (M * gap j i) * G) (apart (w * step j i) (M * gap j i) * G) (sym e1 ∙ e ∙ e2)) in
    le_trans (le_of_eq q.same) (mul-le-mul_right (10 ^ k') (mul-le-mul_right (tens_above i) (b.1 h)))

-- ---- the relation
pub found_shortest : {x : Float} {s : Bool} {M j n i : ℕ} → Found x s M j n i → Shortest x (n * tens_above i) (i - 12)
found_shortest {x} {s} {M} {j} {n} {i} f =
    let g : is_sign_negative x ≡ s = sign_of x s (M * 2 ^ j) (2 ^ 149) f.parts.value in
    let turn : (n' k' : ℕ) → nearest_float (is_sign_negative x) n' k' ≡ x → nearest_float s n' k' ≡ x = λ n' k' r. ap (λ (z : Bool). nearest_float z n' k') (sym g) ∙ r in
    record {
      back = ap (λ (z : Bool). nearest_float z (n * tens_above i) (i - 12)) g ∙ found_reads f;
      fewest = λ n' k' t r. found_fewest f n' k' t (turn n' k' r);
      nearest = λ n' k' r few. found_nearest f n' k' (rival f n' k' (turn n' k' r) few);
      larger = λ n' k' r few. found_larger f n' k' (rival f n' k' (turn n' k' r) few);
    }
