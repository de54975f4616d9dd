-- The tests of the domains say just what their numbers say.
use Rattle.std.proofs.Common.{◌≡◌, ℕ, ◌*◌, ◌^◌, ◌≤◌, true, false, ◌||◌, T, ◌⊎◌, subst, inl, inr}
use lib.Ieee.{Float, binary32, fits, le, eq}
use lib.Ieee.Exact.{HasValue}
use lib.Ieee.Scale.{finite}
use Rattle.std.proofs.lemmas.Bool.{and_from, or_left, or_right}
use Rattle.std.specs.Float.{is_sign_negative, float_with_sign}
use Rattle.digits.specs.Magnitudes.{grains, nought, least, most, bare_domain, rounded_domain}
use Rattle.digits.specs.Theorems.{Sized, DomainStands}
use Rattle.digits.proofs.BareText.{in_domain}
use Rattle.digits.proofs.RoundedText.{zero_equals}
use Rattle.digits.proofs.Values.{valued, unsigned_value, le_grains, least_value, most_value, finite_in, at_most, at_least}
use lib.Ieee.Bits.{is_true}
use Rattle.std.proofs.lemmas.Float.{T_from_true}

sized : (x : Float) → T (fits binary32 x) → rounded_domain x ≡ true → Sized x
sized x f h = let v = valued x f (finite_in x h) in (is_true (finite x) (finite_in x h), at_most x (is_sign_negative x) (grains x) v h)

own : (x : Float) → T (fits binary32 x) → Sized x → HasValue x (is_sign_negative x) (grains x) (2 ^ 149)
own x f z = valued x f (T_from_true _ z.0)

in_rounded : (x : Float) → T (fits binary32 x) → Sized x → rounded_domain x ≡ true
in_rounded x f z = is_true (le (float_with_sign false x) most) (le_grains (float_with_sign false x) most (grains x) (2 ^ 189) (unsigned_value x (is_sign_negative x) (grains x) (own x f z)) most_value z.1)

in_bare : (x : Float) → T (fits binary32 x) → Sized x → (grains x ≡ 0) ⊎ (11258999 * 2 ^ 99 ≤ grains x) → bare_domain x ≡ true
in_bare x f z c =
    and_from (le (float_with_sign false x) most) (eq x nought || le least (float_with_sign false x)) (in_rounded x f z)
    (elim c [
      | inl e ↦ or_left (eq x nought) (le least (float_with_sign false x)) (zero_equals x (is_sign_negative x) (subst (λ (n : ℕ). HasValue x (is_sign_negative x) n (2 ^ 149)) e (own x f z)))
      | inr l ↦
          or_right (eq x nought) (le least (float_with_sign false x))
          (is_true (le least (float_with_sign false x)) (le_grains least (float_with_sign false x) (11258999 * 2 ^ 99) (grains x) least_value (unsigned_value x (is_sign_negative x) (grains x) (own x f z)) l))
    ])

out_of_bare : (x : Float) → T (fits binary32 x) → bare_domain x ≡ true → Sized x × ((grains x ≡ 0) ⊎ (11258999 * 2 ^ 99 ≤ grains x))
out_of_bare x f h =
    let d = in_domain x h in
    let z = sized x f d.0 in
    (z, elim d.1 [ inl e ↦ inl e | inr l ↦ inr (at_least x (is_sign_negative x) (grains x) (own x f z) l) ])

pub domains_stand : DomainStands
domains_stand x p =
    let f : T (fits binary32 x) = T_from_true _ p in
    ((sized x f, in_rounded x f), (out_of_bare x f, λ q. in_bare x f q.0 q.1))
