-- A bare text has no more decimals than any decimal that reads as the float has.
use Rattle.std.proofs.Common.{◌≡◌, ℕ, ◌+◌, ◌-◌, ◌*◌, ◌^◌, ◌<◌, ◌≤◌, Bool, true, T, sym, ap, ◌∙◌, inl, inr, arith, lit<}
use lib.Ieee.{Float, binary32, round, fits, to_bits}
use Rattle.std.proofs.lemmas.Bool.{cases_lt}
use Rattle.std.specs.Float.{is_sign_negative}
use Rattle.digits.specs.Decimals.{nearest_float, places, spelling}
use Rattle.digits.specs.Magnitudes.{bare_domain}
use Rattle.digits.specs.Bare.{bare, best_at, coarsest, tens_above, tens_below}
use Rattle.digits.specs.Scaled.{Parts}
use Rattle.digits.proofs.BareText.{in_domain, bare_nought, bare_found}
use Rattle.digits.proofs.PlaceUnits.{none_before}
use Rattle.digits.proofs.Searched.{Found, definition_found}
use Rattle.digits.proofs.Shortness.{found_bound, found_lowest}
use Rattle.digits.proofs.Texts.{spelling_says}
use Rattle.digits.proofs.Values.{parts_of, sign_of}

-- a decimal with p places is a number of units of the place 12 + p
at_place : (s : Bool) (w p : ℕ) → round binary32 s (w * tens_above (12 + p)) (tens_below (12 + p)) ≡ nearest_float s w p
at_place s w p = grind arith

found_decimals : {x : Float} {s : Bool} {M j n : ℕ} (i : ℕ) → Found x s M j n i → (w p : ℕ) → nearest_float s w p ≡ x → i - 12 ≤ p
found_decimals {x} {s} {M} {j} i f w p e = elim (cases_lt (12 + p) i) [
  | inl h ↦ absurd (none_before x s M j (12 + p) w f.parts (f.first.before (12 + p) h) (at_place s w p ∙ e))
  | inr h ↦ omega arith
]

zero_places : (s : Bool) → places (spelling s 0 0) ≡ 0
zero_places s = (spelling_says s 0 0 (lit< tt) (λ h z. omega arith)).places_are

some_decimals : (x : Float) (s : Bool) (M j : ℕ) → Parts x s M j → (w p : ℕ) → nearest_float (is_sign_negative x) w p ≡ x → places (bare x) ≤ p
some_decimals x s M j q w p e =
    let i = coarsest x in
    let n = best_at x i in
    let d = definition_found x s M j q in
    let b : n * tens_above i < 2 ^ 64 = (let h = found_bound d in omega arith) in
    let g : is_sign_negative x ≡ s = sign_of x s (M * 2 ^ j) (2 ^ 149) q.value in
    let k : places (bare x) ≡ i - 12 = ap places (bare_found d) ∙ (spelling_says s (n * tens_above i) (i - 12) b (found_lowest i d)).places_are in
    let l = found_decimals i d w p (ap (λ (z : Bool). nearest_float z w p) (sym g) ∙ e) in
    omega arith

pub fewest_decimals : (x : Float) → T (fits binary32 x) → bare_domain x ≡ true → (w p : ℕ) → nearest_float (is_sign_negative x) w p ≡ x → places (bare x) ≤ p
fewest_decimals x f h w p e = grind (arith, in_domain, bare_nought, zero_places, is_sign_negative, some_decimals, to_bits, parts_of)
