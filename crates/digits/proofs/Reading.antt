-- A decimal reads as a float that no other float is nearer than, and at a tie as the even one.
use Rattle.std.proofs.Common.{◌≡◌, ℕ, zero, suc, ◌+◌, ◌-◌, ◌*◌, ◌/◌, ◌%◌, ◌^◌, ◌<◌, ◌≤◌, Bool, true, false, cond, T, sym, refl, ap, ◌∙◌, subst, inl, inr, le_trans, le_of_eq, lt_of_lt_of_le, mul-le-mul_right, mul_assoc, suc-mul, mul_comm, mul-le-mul_left, mul-lt-mul_of_pos_right, mul-pos, pow-suc, div-add-mod', mul_right_comm, mul-div_cancel, arith, lit<, pow_pos, pow_mono, pow-add}
use native.Mathlib.Nat.{mul-mod_left, eq_of_mul-eq-mul_right}
use lib.Ieee.{Float, binary32, to_bits, units, size}
use lib.Ieee.Digits.{size-le, size_reaches}
use lib.Ieee.Exact.{HasValue}
use lib.Ieee.Fits.{round_is}
use lib.Ieee.Order.{drop, kept}
use lib.Ieee.Scale.{finite}
use Rattle.std.proofs.lemmas.Bool.{cases_lt, cases_order}
use Rattle.digits.specs.Decimals.{nearest_float}
use Rattle.digits.specs.Magnitudes.{grains, apart}
use Rattle.digits.specs.Bare.{away}
use Rattle.digits.specs.Theorems.{ReadingStands}
use Rattle.digits.proofs.Between.{drops_ge, kept_at_most}
use Rattle.digits.proofs.Closest.{Near, closest_near}
use Rattle.digits.proofs.Fractions.{Digits, float_digits}
use Rattle.digits.proofs.ReadsBack.{rounded_grains, bits_of}
use Rattle.digits.proofs.Steps.{round_value}
use Rattle.digits.proofs.Texts.{ten_pos}
use Rattle.digits.proofs.Values.{grains_of}
use Rattle.std.proofs.lemmas.Float.{T_from_true}

-- ---- what is read is finite
units_small : (s : Bool) (q k : ℕ) → T (finite (units binary32 s q k)) → q * 2 ^ k < 2 ^ 277
unfolding units
units_small s q k = grind arith

read_value : (s : Bool) (n k : ℕ) → T (finite (nearest_float s n k)) → HasValue (nearest_float s n k) s (rounded_grains n (10 ^ k)) (2 ^ 149)
read_value s n k h = grind (arith, round_value, units_small, round_is)

-- ---- the nearest multiple of u
multiple_nearest : (N u K B : ℕ) → Near N u K (K * u) → apart N (K * u) ≤ apart N (B * u)
multiple_nearest N u K B x =
    let lo = x.low in
    let hi = x.high in
    elim (cases_order B K) [
      | inl e ↦ le_of_eq (ap (λ (z : ℕ). apart N (z * u)) (sym e))
      | inr (inl l) ↦ let g : suc B * u ≤ K * u = mul-le-mul_right u l in let s = suc-mul B u in omega arith
      | inr (inr l) ↦ let g : suc K * u ≤ B * u = mul-le-mul_right u l in let s = suc-mul K u in omega arith
    ]

multiple_tie : (N u K B : ℕ) → 0 < u → Near N u K (K * u) → apart N (K * u) ≡ apart N (B * u) → (K ≡ B → ⊥) → K % 2 ≡ 0
multiple_tie N u K B U x e n =
    let lo = x.low in
    let hi = x.high in
    elim (cases_order B K) [
      | inl q ↦ absurd (n (sym q))
      | inr (inl l) ↦ let g : suc B * u ≤ K * u = mul-le-mul_right u l in let s = suc-mul B u in x.tie_low (omega arith)
      | inr (inr l) ↦ let g : suc K * u ≤ B * u = mul-le-mul_right u l in let s = suc-mul K u in x.tie_high (omega arith)
    ]

-- ---- a float's grains b: a multiple of the gap read, or below all that has as many digits
scaled : (S j d D : ℕ) → d ≤ j → S * 2 ^ j * D ≡ S * 2 ^ (j - d) * (D * 2 ^ d)
scaled S j d D h = grind (arith, pow-add, mul_assoc, mul_comm)

below : (S j d D : ℕ) → S < 2 ^ 24 → j < d → 0 < D → S * 2 ^ j * D < 2 ^ 23 * (D * 2 ^ d)
below S j zero D small h P = absurd (omega arith)
below S j (suc d) D small h P =
    let m : 2 ^ j ≤ 2 ^ d = pow_mono {i = j} {j = d} (omega arith) in
    let a : S * 2 ^ j ≤ S * 2 ^ d = mul-le-mul_left S m in
    let b : S * 2 ^ d < 2 ^ 24 * 2 ^ d = mul-lt-mul_of_pos_right small (pow_pos d) in
    let c : S * 2 ^ j * D < 2 ^ 24 * 2 ^ d * D = mul-lt-mul_of_pos_right (omega arith) P in
    let e : 2 ^ 23 * (D * 2 ^ suc d) ≡ 2 ^ 24 * 2 ^ d * D = ap (λ (z : ℕ). 2 ^ 23 * (D * z)) (pow-suc 2 d) ∙ regroup D (2 ^ d) in
    lt_of_lt_of_le c (le_of_eq (sym e))
  where
    regroup : (D x : ℕ) → 2 ^ 23 * (D * (x * 2)) ≡ 2 ^ 24 * x * D
    regroup D x = omega arith

record Against (N u K b : ℕ) : Type 0 where
  near : apart N (K * u) ≤ apart N b
  tie : apart N (K * u) ≡ apart N b → (K * u ≡ b → ⊥) → K % 2 ≡ 0

against : (N D b : ℕ) → 0 < D → Digits b → Against N (D * 2 ^ drop 24 N D) (kept 24 N D) (b * D)
against N D b P c = go c.0 c.1 c.2 c.3
  where
    go : (S j : ℕ) → S < 2 ^ 24 → b ≡ S * 2 ^ j → Against N (D * 2 ^ drop 24 N D) (kept 24 N D) (b * D)
    go S j small e =
        let d = drop 24 N D in
        let u = D * 2 ^ d in
        let U : 0 < u = mul-pos P (pow_pos d) in
        let K = kept 24 N D in
        let x : Near N u K (K * u) = closest_near N u U in
        elim (cases_lt j d) [
          | inr h ↦
              let B = S * 2 ^ (j - d) in
              let q : b * D ≡ B * u = ap (λ (z : ℕ). z * D) e ∙ scaled S j d D h in
              record {
                near = subst (λ (z : ℕ). apart N (K * u) ≤ apart N z) (sym q) (multiple_nearest N u K B x);
                tie = λ t n. multiple_tie N u K B U x (t ∙ ap (λ (z : ℕ). apart N z) q) (λ k. n (ap (λ (z : ℕ). z * u) k ∙ sym q));
              }
          | inl h ↦
              let q : b * D < 2 ^ 23 * u = subst (λ (z : ℕ). z * D < 2 ^ 23 * u) (sym e) (below S j d D small h P) in
              let l : 2 ^ 23 * u ≤ N = drops_ge 24 N D (lit< tt) P (omega arith) in
              let m = multiple_nearest N u K (2 ^ 23) x in
              record { near = far (K * u) (2 ^ 23 * u) (b * D) q l m; tie = λ t n. absurd (farther (K * u) (2 ^ 23 * u) (b * D) q l m t) }
        ]
      where
        far : (Q W z : ℕ) → z < W → W ≤ N → apart N Q ≤ apart N W → apart N Q ≤ apart N z
        far Q W z a b c = omega arith

        farther : (Q W z : ℕ) → z < W → W ≤ N → apart N Q ≤ apart N W → apart N Q ≡ apart N z → ⊥
        farther Q W z a b c e = omega arith

-- ---- the last binary digit
even_times : (K X : ℕ) → K % 2 ≡ 0 → K * X % 2 ≡ 0
even_times K X e =
    let h : K ≡ K / 2 * 2 = (let d = div-add-mod' K 2 in omega arith) in
    ap (λ (z : ℕ). z * X % 2) h ∙ ap (λ (z : ℕ). z % 2) (mul_right_comm (K / 2) 2 X) ∙ mul-mod_left (K / 2 * X) 2

even_digit : (K d k : ℕ) → K % 2 ≡ 0 → K ≤ 2 ^ 24 → k ≡ size (K * 2 ^ d) - 24 → K * 2 ^ d / 2 ^ k % 2 ≡ 0
even_digit K d k e small is = elim (cases_lt d k) [
  | inr h ↦
      let p : d ≡ d - k + k = omega arith in
      let q : K * 2 ^ d ≡ K * 2 ^ (d - k) * 2 ^ k = ap (λ (z : ℕ). K * z) (ap (λ (z : ℕ). 2 ^ z) p ∙ pow-add 2 (d - k) k) ∙ sym (mul_assoc K (2 ^ (d - k)) (2 ^ k)) in
      ap (λ (z : ℕ). z / 2 ^ k % 2) q ∙ ap (λ (z : ℕ). z % 2) (mul-div_cancel (K * 2 ^ (d - k)) (pow_pos k)) ∙ even_times K (2 ^ (d - k)) e
  | inl h ↦
      let a : K * 2 ^ d ≤ 2 ^ 24 * 2 ^ d = mul-le-mul_right (2 ^ d) small in
      let b : 2 ^ 24 * 2 ^ d ≡ 2 ^ (24 + d) = sym (pow-add 2 24 d) in
      let b' : 2 ^ (25 + d) ≡ 2 ^ 25 * 2 ^ d = pow-add 2 25 d in
      let P = pow_pos d in
      let c : size (K * 2 ^ d) ≤ 25 + d = size-le (K * 2 ^ d) (25 + d) (omega arith) in
      let one : k ≡ suc d = omega arith in
      let r : 2 ^ (24 + d) ≤ K * 2 ^ d = size_reaches (K * 2 ^ d) (24 + d) (omega arith) in
      let f : K * 2 ^ d ≡ 2 ^ 24 * 2 ^ d = omega arith in
      let g : K * 2 ^ d ≡ 2 ^ 23 * 2 ^ suc d = f ∙ ap (λ (z : ℕ). z) (double (2 ^ d)) ∙ ap (λ (z : ℕ). 2 ^ 23 * z) (sym (pow-suc 2 d)) in
      ap (λ (z : ℕ). K * 2 ^ d / 2 ^ z % 2) one ∙ ap (λ (z : ℕ). z / 2 ^ suc d % 2) g ∙ ap (λ (z : ℕ). z % 2) (mul-div_cancel (2 ^ 23) (pow_pos (suc d)))
]
  where
    double : (x : ℕ) → 2 ^ 24 * x ≡ 2 ^ 23 * (x * 2)
    double x = omega arith

even_bits : (r : Float) (s : Bool) (K d : ℕ) → HasValue r s (K * 2 ^ d) (2 ^ 149) → K % 2 ≡ 0 → K ≤ 2 ^ 24 → to_bits binary32 r % 2 ≡ 0
even_bits r s K d v e small =
    let g = K * 2 ^ d in
    let h : g / 2 ^ (size g - 24) % 2 ≡ 0 = even_digit K d (size g - 24) e small refl in
    ap (λ (z : ℕ). z % 2) (bits_of binary32 r s g v) ∙ sum s (size g - 24) (g / 2 ^ (size g - 24)) h
  where
    sum : (s : Bool) (k m : ℕ) → m % 2 ≡ 0 → (cond s 2147483648 0 + k * 8388608 + m) % 2 ≡ 0
    sum true k m h = omega arith
    sum false k m h = omega arith

-- ---- the theorem
pub reading_stands : ReadingStands
reading_stands s n k y h f i =
    let D = 10 ^ k in
    let N = n * 2 ^ 149 in
    let r = nearest_float s n k in
    let v = read_value s n k (T_from_true _ h) in
    let d = drop 24 N D in
    let K = kept 24 N D in
    let g : grains r ≡ K * 2 ^ d = grains_of r s (K * 2 ^ d) v in
    let c = against N D (grains y) (ten_pos k) (float_digits y (T_from_true _ f) (T_from_true _ i)) in
    let w : grains r * D ≡ K * (D * 2 ^ d) = ap (λ (z : ℕ). z * D) g ∙ mul_assoc K (2 ^ d) D ∙ ap (λ (z : ℕ). K * z) (mul_comm (2 ^ d) D) in
    let a : away r n k ≡ apart N (K * (D * 2 ^ d)) = ap (λ (z : ℕ). apart N z) w in (
      le_trans (le_of_eq a) c.near,
      λ t x. even_bits r s K d v (c.tie (sym a ∙ t) (λ q. x (eq_of_mul-eq-mul_right D (ten_pos k) (grains r) (grains y) (w ∙ q)))) (kept_at_most 24 N D),
    )
