-- No decimal that reads back has fewer digits than the one that the search of places finds first.
use Rattle.std.proofs.Common.{◌≡◌, ℕ, zero, suc, ◌+◌, ◌-◌, ◌*◌, ◌/◌, ◌%◌, ◌^◌, ◌<◌, ◌≤◌, Bool, leb, sym, refl, ap, ◌∙◌, inl, inr, le_trans, le_of_eq, le_of_lt, mul-le-mul_right, mul_assoc, div-lt_iff_lt-mul, mul-le-mul, pow-suc, zero-mul, mul-one, arith, pow_pos, pow_mono, pow-add}
use lib.Ieee.{Float, binary32, round}
use lib.Ieee.Scale.{round_same}
use Rattle.std.proofs.lemmas.Bool.{cases_lt}
use Rattle.digits.specs.Bare.{tens_above, tens_below}
use Rattle.digits.specs.Scaled.{Parts, within, gap, step, units_at}
use Rattle.digits.proofs.Between.{Inside}
use Rattle.digits.proofs.PlaceUnits.{tests_inside, inside_tests, significand_some, chosen_one, gap_pos, step_pos, within_reads, reads_within, none_before, result_reads, result_some}
use Rattle.digits.proofs.Texts.{ten_pos}

-- the same decimal at a finer place
powers : (i k : ℕ) → i ≤ k → 10 ^ (k - i) * 10 ^ (12 - k) * 10 ^ (i - 12) ≡ 10 ^ (12 - i) * 10 ^ (k - 12)
powers i k h =
    let e : k - i + (12 - k) + (i - 12) ≡ 12 - i + (k - 12) = omega arith in
    ap (λ (z : ℕ). z * 10 ^ (i - 12)) (sym (pow-add 10 (k - i) (12 - k))) ∙ sym (pow-add 10 (k - i + (12 - k)) (i - 12)) ∙ ap (λ (z : ℕ). 10 ^ z) e ∙ pow-add 10 (12 - i) (k - 12)

pub finer : (s : Bool) (n i k : ℕ) → i ≤ k → round binary32 s (n * 10 ^ (k - i) * tens_above k) (tens_below k) ≡ round binary32 s (n * tens_above i) (tens_below i)
finer s n i k h = grind (arith, round_same, tens_above, tens_below, ten_pos, mul_assoc, powers)

-- what lies between two numbers that read as x reads as x
between : (M a w b u X : ℕ) → a ≤ w → w ≤ b → Inside M a u X → Inside M b u X → Inside M w u X
between M a w b u X h k x y = grind arith

pub between_reads : (x : Float) (s : Bool) (M j k a w b : ℕ) → Parts x s M j → a ≤ w → w ≤ b
    → round binary32 s (a * tens_above k) (tens_below k) ≡ x → round binary32 s (b * tens_above k) (tens_below k) ≡ x → round binary32 s (w * tens_above k) (tens_below k) ≡ x
between_reads x s M j k a w b p h l e f =
    let u = gap j k in
    let v = step j k in
    within_reads x s M j w k p
    (inside_tests M (w * v) u (M * u)
    (between M (a * v) (w * v) (b * v) u (M * u) (mul-le-mul_right v h) (mul-le-mul_right v l)
    (tests_inside M (a * v) u (M * u) (reads_within x s M j a k p e)) (tests_inside M (b * v) u (M * u) (reads_within x s M j b k p f))))

-- nothing reads as x but what is above zero
pub some : (x : Float) (s : Bool) (M j n i : ℕ) → Parts x s M j → round binary32 s (n * tens_above i) (tens_below i) ≡ x → 0 < n
some x s M j zero i p e =
    let u = gap j i in
    let y = tests_inside M (0 * step j i) u (M * u) (reads_within x s M j 0 i p e) in
    let l = y.low in
    let z = zero-mul (step j i) in
    let g : 1 * u ≤ M * u = mul-le-mul_right u (significand_some p) in
    let P = gap_pos j i in
    absurd (omega arith)
some x s M j (suc n) i p e = omega arith

-- at the first place the number has one digit
pub first : (x : Float) (s : Bool) (M j n : ℕ) → Parts x s M j → n ≡ units_at M (gap j 0) (step j 0) → 0 < n → n < 10
first x s M j n p e h =
    let M24 = p.short in
    let jb = p.below in
    let a : j - 149 ≤ 17 = omega arith in
    let q : M * 2 ^ (j - 149) ≤ 2 ^ 24 * 2 ^ 17 = mul-le-mul (le_of_lt M24) (pow_mono a) in
    let o : 2 ^ (j - 149) * 1 ≡ 2 ^ (j - 149) = mul-one (2 ^ (j - 149)) in
    let X : M * gap j 0 ≤ 2 ^ 41 = le_trans (le_of_eq (ap (λ (z : ℕ). M * z) o)) q in
    let v : 1 * 10 ^ 12 ≤ step j 0 = mul-le-mul_right (10 ^ 12) (pow_pos (149 - j)) in
    let d : M * gap j 0 < 9 * step j 0 = omega arith in
    let r : M * gap j 0 / step j 0 < 9 = (div-lt_iff_lt-mul (step_pos j 0)).1 d in
    let Y = M * gap j 0 in
    let f = Y - Y % step j 0 in
    elim (chosen_one (within M f (gap j 0)) (within M (f + step j 0) (gap j 0)) (leb (step j 0) (2 * (Y % step j 0))) (M * gap j 0 / step j 0) n e h) [ inl g ↦ let g0 = g.0 in omega arith | inr g ↦ let g0 = g.0 in omega arith ]

pub fewest : (x : Float) (s : Bool) (M j n i : ℕ) → Parts x s M j → n ≡ units_at M (gap j i) (step j i) → (n ≡ 0 → i ≡ 28)
    → ((k : ℕ) → k < i → units_at M (gap j k) (step j k) ≡ 0)
    → (n' i' t : ℕ) → n' < 10 ^ t → round binary32 s (n' * tens_above i') (tens_below i') ≡ x → n < 10 ^ t
fewest x s M j n i p e z none n' i' zero h r = let g = some x s M j n' i' p r in absurd (omega arith)
fewest x s M j n zero p e z none n' i' (suc t) h r =
    let b : n < 10 = first x s M j n p e (result_some x s M j n 0 p e z) in
    let c : 1 * 10 ≤ 10 ^ t * 10 = mul-le-mul_right 10 (ten_pos t) in
    let d = pow-suc 10 t in
    omega arith
fewest x s M j n (suc i) p e z none n' i' (suc t) h r =
    elim (cases_lt n (10 ^ suc t)) [
      | inl l ↦ l
      | inr l ↦
          elim (cases_lt i' (suc i)) [
            | inl c ↦ absurd (none_before x s M j i' n' p (none i' c) r)
            | inr c ↦
                let f : i ≤ i' = omega arith in
                let own : round binary32 s (n * 10 ^ (i' - suc i) * tens_above i') (tens_below i') ≡ x = finer s n (suc i) i' c ∙ result_reads x s M j n (suc i) p e z in
                let w : 10 ^ t * 10 ^ (i' - i) ≡ 10 ^ suc t * 10 ^ (i' - suc i) = sym (pow-add 10 t (i' - i)) ∙ ap (λ (k : ℕ). 10 ^ k) (same t i i' c) ∙ pow-add 10 (suc t) (i' - suc i) in
                let g : 10 ^ suc t * 1 ≤ 10 ^ suc t * 10 ^ (i' - suc i) = mul-le-mul (le_of_eq refl) (ten_pos (i' - suc i)) in
                let o : 10 ^ suc t * 1 ≡ 10 ^ suc t = mul-one (10 ^ suc t) in
                let hi : 10 ^ suc t * 10 ^ (i' - suc i) ≤ n * 10 ^ (i' - suc i) = mul-le-mul_right (10 ^ (i' - suc i)) l in
                let mid : round binary32 s (10 ^ t * 10 ^ (i' - i) * tens_above i') (tens_below i') ≡ x = between_reads x s M j i' n' (10 ^ t * 10 ^ (i' - i)) (n * 10 ^ (i' - suc i)) p (omega arith) (omega arith) r own in
                absurd (none_before x s M j i (10 ^ t) p (none i (omega arith)) (sym (finer s (10 ^ t) i i' f) ∙ mid))
          ]
    ]
  where
    same : (t i i' : ℕ) → suc i ≤ i' → t + (i' - i) ≡ suc t + (i' - suc i)
    same t i i' h = omega arith
