-- The theorem on `bare`: its text is the shortest, nearest, larger one, reads back, and no other text does all that.
use Rattle.std.proofs.Common.{◌≡◌, ℕ, ◌+◌, ◌-◌, ◌*◌, ◌/◌, ◌%◌, ◌^◌, ◌<◌, Bool, true, false, T, leb, ◌⊎◌, List, sym, refl, ap, ◌∙◌, subst, inl, inr, le_antisymm, mul-pos, zero-mul, arith, lit<}
use mathlib.Core.Bool.{false≢true}
use lib.Ieee.{Float, nan, inf, fin, binary32, size, round, units, fits, to_bits, of_bits, eq, le}
use lib.Ieee.Fits.{round_is}
use lib.Ieee.Exact.{HasValue}
use Rattle.std.proofs.lemmas.Bool.{cond-false, ne_eqb, and_parts, or_cases}
use Rattle.std.specs.Float.{is_sign_negative, float_with_sign}
use Rattle.digits.specs.Decimals as text
use Rattle.digits.specs.Decimals.{minus, places, spelling}
use Rattle.digits.specs.Magnitudes.{grains, nought, least, most, bare_domain}
use Rattle.digits.specs.Bare.{Significant, away, Shortest, Shows, bare, shortest_text, best_at, coarsest, tens_above}
use Rattle.digits.specs.Scaled.{Parts}
use Rattle.digits.specs.Theorems.{BareStands}
use Rattle.digits.proofs.ReadsBack.{reads_of_grains, rounded_grains}
use Rattle.digits.proofs.Searched.{Found, definition_found, same_units, same_place}
use Rattle.digits.proofs.Shortness.{found_shortest, found_bound, found_lowest}
use Rattle.digits.proofs.Texts.{Lowest, spelling_plain, spelling_says, spelling_reads, plain_spelling, plain_lowest, lowest_places, lowest_units, ten_pos, whole_lowest}
use Rattle.digits.proofs.Values.{grains_of, sign_of, valued, finite_in, parts_of}
use Rattle.std.proofs.lemmas.Float.{T_from_true}

-- ---- the sign is that of the text

units_negative : (s : Bool) (q k : ℕ) → is_sign_negative (units binary32 s q k) ≡ s
unfolding units is_sign_negative
units_negative s q k = grind arith

pub round_negative : (s : Bool) (n d : ℕ) → is_sign_negative (round binary32 s n d) ≡ s
round_negative s n d = grind (arith, is_sign_negative, round_is, units_negative)

-- ---- one decimal is the shortest, nearest, larger one
shortest_once : (x : Float) (n k n' k' : ℕ) → Shortest x n k → Shortest x n' k' → n * 10 ^ k' ≡ n' * 10 ^ k
shortest_once x n k n' k' a b =
    let few : (t : ℕ) → Significant t n → Significant t n' = λ t. b.fewest n k t a.back in
    let few' : (t : ℕ) → Significant t n' → Significant t n = λ t. a.fewest n' k' t b.back in
    let near : away x n k * 10 ^ k' ≡ away x n' k' * 10 ^ k = le_antisymm (a.nearest n' k' b.back few) (b.nearest n k a.back few') in
    le_antisymm (b.larger n k a.back few' (sym near)) (a.larger n' k' b.back few near)

-- a spelling of such a decimal is shown, and nothing else is
pub shows_spelling : (x : Float) (n k : ℕ) → n < 2 ^ 64 → Lowest n k → Shortest x n k → Shows x (spelling (is_sign_negative x) n k)
shows_spelling x n k small low h =
    let s = is_sign_negative x in
    let says = spelling_says s n k small low in
    record {
      plain = spelling_plain s n k small low;
      back = spelling_reads s n k small low ∙ h.back;
      shortest = subst (λ (z : ℕ). Shortest x z (places (spelling s n k))) (sym says.units_are) (subst (λ (z : ℕ). Shortest x n z) (sym says.places_are) h);
    }

pub shows_once : (x : Float) (n k : ℕ) → n < 2 ^ 64 → Lowest n k → Shortest x n k → (bs : List ℕ) → Shows x bs → bs ≡ spelling (is_sign_negative x) n k
shows_once x n k small low h bs g =
    let n' = text.units bs in
    let k' = places bs in
    let e : n' * 10 ^ k ≡ n * 10 ^ k' = shortest_once x n' k' n k g.shortest h in
    let kk : k' ≡ k = lowest_places n' k' n k (plain_lowest bs g.plain) low e in
    let nn : n' ≡ n = lowest_units n' k' n k kk e in
    let ss : minus bs ≡ is_sign_negative x = sym (round_negative (minus bs) n' (10 ^ k')) ∙ ap is_sign_negative g.back in
    plain_spelling bs g.plain (subst (λ (z : ℕ). z < 2 ^ 64) (sym nn) small)
    ∙ ap (λ (z : Bool). spelling z n' k') ss
    ∙ ap (λ (z : ℕ). spelling (is_sign_negative x) z k') nn
    ∙ ap (λ (z : ℕ). spelling (is_sign_negative x) n z) kk

-- ---- zero
pub zero_stays : rounded_grains 0 1 ≡ 0
unfolding size
zero_stays = refl

away_zero : (x : Float) (n k : ℕ) → grains x ≡ 0 → n ≡ 0 → away x n k ≡ 0
away_zero x n k g z = grind arith

no_digits : (n : ℕ) → Significant 0 n → n ≡ 0
no_digits n g = grind arith

pub zero_shortest : (x : Float) → T (fits binary32 x) → HasValue x (is_sign_negative x) 0 (2 ^ 149) → Shortest x 0 0
zero_shortest x p v = grind (arith, grains_of, is_sign_negative, no_digits, reads_of_grains, zero_stays, ten_pos, away_zero, zero-mul)

-- ---- the domain
pub zero_grains : (x : Float) → eq x nought ≡ true → grains x ≡ 0
unfolding eq of_bits grains
zero_grains nan h = absurd (false≢true h)
zero_grains (inf s) h = absurd (false≢true h)
zero_grains (fin s m e) h = grind arith

-- a float of the domain is zero, or has the parts that the search goes by
pub in_domain : (x : Float) → bare_domain x ≡ true → (le (float_with_sign false x) most ≡ true) × ((grains x ≡ 0) ⊎ (le least (float_with_sign false x) ≡ true))
in_domain x h = grind (arith, and_parts, float_with_sign, or_cases, zero_grains)

pub bare_nought : (x : Float) → grains x ≡ 0 → bare x ≡ spelling (is_sign_negative x) 0 0
unfolding bare
bare_nought x e = grind arith

bare_some : (x : Float) → (grains x ≡ 0 → ⊥) → bare x ≡ spelling (is_sign_negative x) (best_at x (coarsest x) * tens_above (coarsest x)) (coarsest x - 12)
unfolding bare
bare_some x e = grind (arith, cond-false, is_sign_negative, shortest_text, ne_eqb)

pub parts_some : {x : Float} {s : Bool} {M j : ℕ} → Parts x s M j → grains x ≡ 0 → ⊥
parts_some {x} {s} {M} {j} p z =
    let e : M * 2 ^ j ≡ 0 = sym (grains_of x s (M * 2 ^ j) p.value) ∙ z in
    let m : 0 < M = (let h = p.full in omega arith) in
    let q : 0 < M * 2 ^ j = mul-pos m (lib.Pow.pow_pos j) in
    omega arith

-- what any search of the places found is the definition's text
pub bare_found : {x : Float} {s : Bool} {M j n i : ℕ} → Found x s M j n i → bare x ≡ spelling s (n * tens_above i) (i - 12)
bare_found {x} {s} {M} {j} {n} {i} f =
    let p = f.parts in
    let d = definition_found x s M j p in
    let ii = same_place x s M j (best_at x (coarsest x)) (coarsest x) n i d f in
    let nn = same_units x s M j (best_at x (coarsest x)) (coarsest x) n i d f in
    bare_some x (parts_some p)
    ∙ ap (λ (z : Bool). spelling z (best_at x (coarsest x) * tens_above (coarsest x)) (coarsest x - 12)) (sign_of x s (M * 2 ^ j) (2 ^ 149) p.value)
    ∙ ap (λ (z : ℕ). spelling s (z * tens_above (coarsest x)) (coarsest x - 12)) nn
    ∙ ap (λ (z : ℕ). spelling s (n * tens_above z) (z - 12)) ii

-- ---- the theorem
zero_stands : (x : Float) → T (fits binary32 x) → le (float_with_sign false x) most ≡ true → grains x ≡ 0 → Shows x (bare x) × ((bs : List ℕ) → Shows x bs → bs ≡ bare x)
zero_stands x p h z =
    let v : HasValue x (is_sign_negative x) 0 (2 ^ 149) = subst (λ (t : ℕ). HasValue x (is_sign_negative x) t (2 ^ 149)) z (valued x p (finite_in x h)) in
    let e = bare_nought x z in
    let q = zero_shortest x p v in
    (subst (λ (t : List ℕ). Shows x t) (sym e) (shows_spelling x 0 0 (lit< tt) (whole_lowest 0) q), λ bs g. shows_once x 0 0 (lit< tt) (whole_lowest 0) q bs g ∙ sym e)

some_stands : (x : Float) (s : Bool) (M j : ℕ) → Parts x s M j → Shows x (bare x) × ((bs : List ℕ) → Shows x bs → bs ≡ bare x)
some_stands x s M j p =
    let i = coarsest x in
    let n = best_at x i in
    let d = definition_found x s M j p in
    let e = bare_some x (parts_some p) in
    let b : n * tens_above i < 2 ^ 64 = (let h = found_bound d in omega arith) in
    let l = found_lowest i d in
    let q = found_shortest d in
    (subst (λ (t : List ℕ). Shows x t) (sym e) (shows_spelling x (n * tens_above i) (i - 12) b l q), λ bs g. shows_once x (n * tens_above i) (i - 12) b l q bs g ∙ sym e)

pub bare_stands : BareStands
bare_stands x p h =
    let f : T (fits binary32 x) = T_from_true _ p in
    let d = in_domain x h in
    elim d.1 [
      | inl z ↦ zero_stands x f d.0 z
      | inr l ↦ some_stands x (leb 2147483648 (to_bits binary32 x)) (8388608 + to_bits binary32 x % 8388608) (to_bits binary32 x % 2147483648 / 8388608 - 1) (parts_of x f d.0 l)
    ]
