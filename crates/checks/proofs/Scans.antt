-- Texts: that the test says what it should.
use Rattle.std.proofs.Common.{◌≡◌, ℕ, true, false, List, [], ◌∷◌, IsUtf8, Decides, sym, refl, ap, ◌∙◌, inl, inr, arith}
use lib.Utf8.{encodes, scalar, scalars}
use Rattle.std.specs.List.{list_all}
use Rattle.std.specs.Str.{chars}
use Rattle.std.proofs.lemmas.Str.{encodes-chars, chars-encodes}
use Rattle.std.proofs.lemmas.Slice.Eq.{bytes_eq-Decides}
use Rattle.std.proofs.lemmas.Bool.{and_parts, and_from, cases_Bool}
use Rattle.std.proofs.lemmas.Bool.Decides.{nat_tests, Decides-and, Decides-like}
use Rattle.checks.specs.Texts.{xml_char, text_stands, Text}

-- an allowed character is one that UTF-8 encodes
allowed_scalar : (c : ℕ) → xml_char c ≡ true → scalar c ≡ true
allowed_scalar c e = grind (arith, nat_tests)

allowed_scalars : (cs : List ℕ) → list_all xml_char cs ≡ true → scalars cs ≡ true
allowed_scalars [] e = refl
allowed_scalars (c ∷ cs) e =
    let p = and_parts (xml_char c) (list_all xml_char cs) e in
    and_from (scalar c) (scalars cs) (allowed_scalar c p.0) (allowed_scalars cs p.1)

pub decides_text : (bs : List ℕ) → Decides (text_stands bs) (Text bs)
unfolding text_stands
decides_text bs =
    Decides-like _ (λ k. (chars bs, (k.1, k.0))) back (Decides-and _ _ (bytes_eq-Decides (encodes (chars bs)) bs) ((λ e. e), (λ e. e)))
  where
    back : Text bs → (encodes (chars bs) ≡ bs) × (list_all xml_char (chars bs) ≡ true)
    back (cs, (k, e)) = let d : chars bs ≡ cs = ap chars (sym e) ∙ chars-encodes cs (allowed_scalars cs k) in rw d (e, k)

-- what from_utf8 tells
pub stands_of_utf8 : (bs : List ℕ) → IsUtf8 bs → text_stands bs ≡ list_all xml_char (chars bs)
unfolding text_stands
stands_of_utf8 bs u = rw (encodes-chars bs u, (bytes_eq-Decides bs bs).1 refl) refl

pub stands_of_none : (bs : List ℕ) → (IsUtf8 bs → ⊥) → text_stands bs ≡ false
stands_of_none bs n = elim (cases_Bool (text_stands bs)) [
  | inl e ↦ (let t = (decides_text bs).0 e in absurd (n (t.0, (allowed_scalars t.0 t.1.0, t.1.1))))
  | inr e ↦ e
]
