-- Which fractions n / c round to the float M * 2 ^ j of 24 digits: those at most half a gap away, a tie where M is even,
-- and below a power of two only a quarter of the gap, since the floats there are twice as close.
use Rattle.std.proofs.Common.{◌≡◌, ℕ, zero, suc, ◌+◌, ◌-◌, ◌*◌, ◌/◌, ◌%◌, ◌^◌, ◌<◌, ◌≤◌, Bool, true, false, not, T, leb, sym, refl, ap, ◌∙◌, subst, inl, inr, le_trans, le_of_eq, mul-le-mul_right, mul_assoc, mul_comm, div-lt_iff_lt-mul, mul-le-mul_left, mul-pos, pow-suc, le-div_iff_mul-le, mul-one, arith, lit<, leb→le, pow_pos, pow_mono, pow-add}
use Prim.Native.Nat.{compare}
use native.Mathlib.Nat.{eq_of_mul-eq-mul_right, div-div-eq-div-mul}
use lib.Dec.{nleb→lt}
use lib.Ieee.{size}
use lib.Ieee.Nearest.{closest, nearest-ge}
use lib.Ieee.Digits.{size-lt, size-le, size_reaches}
use lib.Ieee.Fits.{nearest-le, kept-lt}
use lib.Ieee.Order.{drop, kept}
use Rattle.std.proofs.lemmas.Bool.{cases_order}
use Rattle.digits.proofs.Closest.{Near, closest_near, near_closest}

-- n has more binary digits than a power of two that it reaches
pub size_past : (n j : ℕ) → 2 ^ j ≤ n → j < size n
size_past n j h =
    let none : size n ≤ j → ⊥ = λ l. (let p : 2 ^ size n ≤ 2 ^ j = pow_mono l in let q : n < 2 ^ size n = size-lt n in omega arith) in
    omega (arith, none)

-- the number kept has at most p digits, or is 2 ^ p
pub kept_at_most : (p n den : ℕ) → kept p n den ≤ 2 ^ p
kept_at_most p n den =
    let u = den * 2 ^ drop p n den in
    let cut : n / u < 2 ^ p = subst (λ (q : ℕ). q < 2 ^ p) (div-div-eq-div-mul n den (2 ^ drop p n den)) (kept-lt p (n / den)) in
    let next : kept p n den ≤ suc (n / u) = nearest-le (n / u) (compare (n % u * 2) u) in
    omega arith

digits_left : (z p : ℕ) → 0 < p → 0 < z - p → p - 1 + (z - p) < z
digits_left z p h k = omega arith

pub drops_ge : (p n den : ℕ) → 0 < p → 0 < den → 0 < drop p n den → 2 ^ (p - 1) * (den * 2 ^ drop p n den) ≤ n
drops_ge p n den P D K =
    let k = drop p n den in
    let a : 2 ^ (p - 1 + k) * den ≤ n = (le-div_iff_mul-le D).0 (size_reaches (n / den) (p - 1 + k) (digits_left (size (n / den)) p P K)) in
    le_trans (le_of_eq (ap (λ (x : ℕ). 2 ^ (p - 1) * x) (mul_comm den (2 ^ k)) ∙ sym (mul_assoc (2 ^ (p - 1)) (2 ^ k) den) ∙ ap (λ (x : ℕ). x * den) (sym (pow-add 2 (p - 1) k)))) a

pub kept_at_least : (p n den : ℕ) → 0 < p → 0 < den → 0 < drop p n den → 2 ^ (p - 1) ≤ kept p n den
kept_at_least p n den P D K =
    let k = drop p n den in
    let u = den * 2 ^ k in
    le_trans ((le-div_iff_mul-le (mul-pos D (pow_pos k))).1 (drops_ge p n den P D K)) (nearest-ge (n / u) (compare (n % u * 2) u))

-- how many digits are dropped, from bounds on the fraction
drop_is : (n c k : ℕ) → 0 < c → 2 ^ 23 * (c * 2 ^ k) ≤ n → n < 2 ^ 24 * (c * 2 ^ k) → drop 24 n c ≡ k
drop_is n c k C l h =
    let s : (a : ℕ) → 2 ^ a * (c * 2 ^ k) ≡ 2 ^ (a + k) * c = λ a. ap (λ (x : ℕ). 2 ^ a * x) (mul_comm c (2 ^ k)) ∙ sym (mul_assoc (2 ^ a) (2 ^ k) c) ∙ ap (λ (x : ℕ). x * c) (sym (pow-add 2 a k)) in
    let lo : 23 + k < size (n / c) = size_past (n / c) (23 + k) ((le-div_iff_mul-le C).1 (subst (λ (x : ℕ). x ≤ n) (s 23) l)) in
    let hi : size (n / c) ≤ 24 + k = size-le (n / c) (24 + k) ((div-lt_iff_lt-mul C).1 (subst (λ (x : ℕ). n < x) (s 24) h)) in
    omega arith

-- n / c lies where M * 2 ^ j is the nearest of the format's numbers. U is c * 2 ^ j, and X is M * U
pub record Inside (M n U X : ℕ) : Type 0 where
  pub high : 2 * n ≤ 2 * X + U
  pub low : 2 * X ≤ 2 * n + U
  pub low_two : M ≡ 2 ^ 23 → 4 * X ≤ 4 * n + U
  pub tie_high : 2 * n ≡ 2 * X + U → M % 2 ≡ 0
  pub tie_low : 2 * X ≡ 2 * n + U → M % 2 ≡ 0

-- ---- from the rounding to the bounds
same_case : (M n U X : ℕ) → Near n U M X → (M ≡ 2 ^ 23 → X ≤ n) → Inside M n U X
same_case M n U X x g = grind arith

half_case : (n V Y : ℕ) → 0 < V → Near n V (2 ^ 24) Y → Inside (2 ^ 23) n (2 * V) Y
half_case n V Y P x = grind arith

-- K * 2 ^ k ≡ M * 2 ^ j with k = j + d
cancel : (K M j d : ℕ) → K * 2 ^ (j + d) ≡ M * 2 ^ j → K * 2 ^ d ≡ M
cancel K M j d e = grind (arith, eq_of_mul-eq-mul_right, pow_pos, mul_assoc, mul_comm, pow-add)

split : (j k : ℕ) → j < k → (d : ℕ) × (k ≡ j + suc d)
split j k h = (k - suc j, omega arith)

twice_pow : (K d : ℕ) → K * 2 ^ suc d ≡ 2 * (K * 2 ^ d)
twice_pow K d = grind arith

grows : (K d : ℕ) → K ≤ K * 2 ^ d
grows K d = grind (arith, mul-one, mul-le-mul_left, pow_pos)

one_more : (M d : ℕ) → 2 ^ 23 ≤ M → M * 2 ^ suc d ≤ 2 ^ 24 → (M ≡ 2 ^ 23) × (d ≡ 0)
one_more M zero a b = grind (arith, twice_pow, mul-one)
one_more M (suc d) a b = grind (arith, twice_pow, grows)

pub bounds_of : (M j n c : ℕ) → 0 < c → 0 < j → 2 ^ 23 ≤ M → M < 2 ^ 24 → kept 24 n c * 2 ^ drop 24 n c ≡ M * 2 ^ j → Inside M n (c * 2 ^ j) (M * (c * 2 ^ j))
bounds_of M j n c C J lo hi e =
    let K = kept 24 n c in
    let k = drop 24 n c in
    let near = closest_near n (c * 2 ^ k) (mul-pos C (pow_pos k)) in
    elim (cases_order k j) [
      | inl q ↦
          let Kj : K * 2 ^ j ≡ M * 2 ^ j = ap (λ (x : ℕ). K * 2 ^ x) (sym q) ∙ e in
          let KM : K ≡ M = eq_of_mul-eq-mul_right (2 ^ j) (pow_pos j) K M Kj in
          let N : Near n (c * 2 ^ j) M (M * (c * 2 ^ j)) = subst (λ (x : ℕ). Near n (c * 2 ^ j) x (x * (c * 2 ^ j))) KM (subst (λ (x : ℕ). Near n (c * 2 ^ x) K (K * (c * 2 ^ x))) q near) in
          let P : 0 < k = subst (λ (x : ℕ). 0 < x) (sym q) J in
          same_case M n (c * 2 ^ j) (M * (c * 2 ^ j)) N (λ m. subst (λ (x : ℕ). x * (c * 2 ^ j) ≤ n) (sym m) (subst (λ (x : ℕ). 2 ^ 23 * (c * 2 ^ x) ≤ n) q (drops_ge 24 n c (lit< tt) C P)))
      | inr (inl l) ↦
          let d = split k j l in
          let E : M * 2 ^ suc d.0 ≡ K = cancel M K k (suc d.0) (ap (λ (x : ℕ). M * 2 ^ x) (sym d.1) ∙ sym e) in
          let o = one_more M d.0 lo (le_trans (le_of_eq E) (kept_at_most 24 n c)) in
          let jk : j ≡ suc k = d.1 ∙ ap (λ (x : ℕ). k + suc x) o.1 ∙ add_one_suc k in
          let K24 : K ≡ 2 ^ 24 = sym E ∙ ap (λ (x : ℕ). M * 2 ^ suc x) o.1 ∙ ap (λ (x : ℕ). x * 2) o.0 in
          let V = c * 2 ^ k in
          let UV : c * 2 ^ j ≡ 2 * V = ap (λ (x : ℕ). c * 2 ^ x) jk ∙ twice_pow c k in
          let N : Near n V (2 ^ 24) (2 ^ 24 * V) = subst (λ (x : ℕ). Near n V x (x * V)) K24 near in
          let XY : 2 ^ 23 * (2 * V) ≡ 2 ^ 24 * V = sym (mul_assoc (2 ^ 23) 2 V) in
          subst (λ (m : ℕ). Inside m n (c * 2 ^ j) (m * (c * 2 ^ j))) (sym o.0)
          (subst (λ (u : ℕ). Inside (2 ^ 23) n u (2 ^ 23 * u)) (sym UV)
          (subst (λ (y : ℕ). Inside (2 ^ 23) n (2 * V) y) (sym XY) (half_case n V (2 ^ 24 * V) (mul-pos C (pow_pos k)) N)))
      | inr (inr g) ↦
          let d = split j k g in
          let E : K * 2 ^ suc d.0 ≡ M = cancel K M j (suc d.0) (ap (λ (x : ℕ). K * 2 ^ x) (sym d.1) ∙ e) in
          let t = twice_pow K d.0 in
          let w = grows K d.0 in
          let P : 0 < k = omega arith in
          let G : 2 ^ 23 ≤ K = kept_at_least 24 n c (lit< tt) C P in
          absurd (omega arith)
    ]
  where
    add_one_suc : (k : ℕ) → k + 1 ≡ suc k
    add_one_suc k = omega arith

-- ---- from the bounds to the rounding
to_near : (M n U X : ℕ) → Inside M n U X → Near n U M X
to_near M n U X x = grind arith

half_near : (n V Y : ℕ) → Inside (2 ^ 23) n (2 * V) Y → n < Y → Near n V (2 ^ 24) Y
half_near n V Y x h = grind arith

pub rounds_to : (M j n c : ℕ) → 0 < c → 0 < j → 2 ^ 23 ≤ M → M < 2 ^ 24 → Inside M n (c * 2 ^ j) (M * (c * 2 ^ j)) → kept 24 n c * 2 ^ drop 24 n c ≡ M * 2 ^ j
rounds_to M zero n c C J lo hi x = absurd (omega arith)
rounds_to M (suc i) n c C J lo hi x =
    let j = suc i in
    let U = c * 2 ^ j in
    let UP : 0 < U = mul-pos C (pow_pos j) in
    let top : M * U ≤ 16777215 * U = mul-le-mul_right U (omega arith) in
    let below : n < 2 ^ 24 * U = omega arith in
    go U UP below (leb (2 ^ 23 * U) n) (leb→le (2 ^ 23 * U) n) (nleb→lt (2 ^ 23 * U) n)
  where
    go : (U : ℕ) → 0 < c * 2 ^ suc i → n < 2 ^ 24 * (c * 2 ^ suc i) → (b : Bool) → (T b → 2 ^ 23 * (c * 2 ^ suc i) ≤ n) → (T (not b) → n < 2 ^ 23 * (c * 2 ^ suc i)) → kept 24 n c * 2 ^ drop 24 n c ≡ M * 2 ^ suc i
    go U UP below true p q =
        let k : drop 24 n c ≡ suc i = drop_is n c (suc i) C (p tt) below in
        ap (λ (z : ℕ). closest n (c * 2 ^ z) * 2 ^ z) k ∙ ap (λ (z : ℕ). z * 2 ^ suc i) (near_closest n (c * 2 ^ suc i) M UP (to_near M n (c * 2 ^ suc i) (M * (c * 2 ^ suc i)) x))
    go U UP below false p q =
        let V = c * 2 ^ i in
        let VP : 0 < V = mul-pos C (pow_pos i) in
        let UV : c * 2 ^ suc i ≡ 2 * V = twice_pow c i in
        let common_power = q tt in
        let m : M ≡ 2 ^ 23 = is_low common_power in
        let y : Inside (2 ^ 23) n (2 * V) (2 ^ 23 * (2 * V)) = subst (λ (u : ℕ). Inside (2 ^ 23) n u (2 ^ 23 * u)) UV (subst (λ (z : ℕ). Inside z n (c * 2 ^ suc i) (z * (c * 2 ^ suc i))) m x) in
        let XY : 2 ^ 23 * (2 * V) ≡ 2 ^ 24 * V = sym (mul_assoc (2 ^ 23) 2 V) in
        let y' : Inside (2 ^ 23) n (2 * V) (2 ^ 24 * V) = subst (λ (z : ℕ). Inside (2 ^ 23) n (2 * V) z) XY y in
        let less' : n < 2 ^ 24 * V = omega arith in
        let N = half_near n V (2 ^ 24 * V) y' less' in
        let l2 = y'.low_two refl in
        let k : drop 24 n c ≡ i = drop_is n c i C (omega arith) less' in
        ap (λ (z : ℕ). closest n (c * 2 ^ z) * 2 ^ z) k
        ∙ ap (λ (z : ℕ). z * 2 ^ i) (near_closest n V (2 ^ 24) VP N)
        ∙ mul_assoc (2 ^ 23) 2 (2 ^ i) ∙ ap (λ (z : ℕ). 2 ^ 23 * z) (mul_comm 2 (2 ^ i) ∙ sym (pow-suc 2 i)) ∙ ap (λ (z : ℕ). z * 2 ^ suc i) (sym m)
      where
        is_low : n < 2 ^ 23 * (c * 2 ^ suc i) → M ≡ 2 ^ 23
        is_low h = elim (cases_order M (2 ^ 23)) [ inl e ↦ e | inr (inl l) ↦ absurd (omega arith) | inr (inr g) ↦ let s : 8388609 * (c * 2 ^ suc i) ≤ M * (c * 2 ^ suc i) = mul-le-mul_right (c * 2 ^ suc i) g in let w = x.low in absurd (omega arith) ]
