-- Tests on characters, and how each character is written: as itself, or as a reference that stands for it.
use Rattle.std.proofs.Common.{◌≡◌, ℕ, Bool, true, false, cond, not, ◌&&◌, ◌||◌, T, eqb, ◌⊎◌, List, [], ◌∷◌, ◌++◌, sym, refl, subst, inl, inr, eqb→eq, T_not}
use Rattle.markup.specs.declared.quotes.Quote.{Quote}
use Rattle.markup.specs.declared.quotes.Quote.TheVariants.{Double, Single}
use Rattle.markup.specs.Escapes.{quote_mark, escape_value, escape_text}
use Rattle.markup.specs.Characters.{is_char, is_space, is_data, is_data_but}
use Rattle.markup.specs.CharacterReferences.{Reference, entity_ref, decimal_ref, amp, lt, gt, quot, apos, reference_then, referred, ReferenceStands}

pub T_of : {b : Bool} → b ≡ true → T b
T_of {b} e = subst (λ v. T v) (sym e) tt

pub true_of : (b : Bool) → T b → b ≡ true
true_of true h = refl
true_of false h = elim h [ ]

pub not_T_of : {b : Bool} → b ≡ false → T (not b)
not_T_of {b} e = subst (λ v. T (not v)) (sym e) tt

pub and_T : (a b : Bool) → T a → T b → T (a && b)
and_T true b x y = y
and_T false b x y = x

pub both : (a b : Bool) → T (a && b) → T a × T b
both true b h = (tt, h)
both false b h = elim h [ ]

pub or_T : (a b : Bool) → T (a || b) → T a ⊎ T b
or_T true b h = inl tt
or_T false b h = inr h

pub or_first : (a b : Bool) → T a → T (a || b)
or_first true b h = tt
or_first false b h = elim h [ ]

pub or_second : (a b : Bool) → T b → T (a || b)
or_second true b h = tt
or_second false b h = h

-- a character of a class that another is not in
pub not_in : (class : ℕ → Bool) {x y : ℕ} → T (class x) → T (not (class y)) → x ≡ y → ⊥
not_in class {x} {y} h g e = T_not (class y) g (subst (λ v. T (class v)) e h)

-- either c is k, or the test fails
pub test : (P : ℕ → Type 0) (c k : ℕ) → P k → (eqb c k ≡ false → P c) → P c
test P c k same other = go (eqb c k) refl
  where
    go : (b : Bool) → eqb c k ≡ b → P c
    go true e = subst P (sym (eqb→eq c k (T_of e))) same
    go false e = other e

-- how a character is written
pub data Shown (escape : ℕ → List ℕ) (Plainly : ℕ → Type 0) (c : ℕ) : Type 0 where
  as_itself : Plainly c → ((rest : List ℕ) → escape c ++ rest ≡ c ∷ rest) → Shown escape Plainly c
  as_reference : (r : Reference) → ReferenceStands r → referred r ≡ c → ((rest : List ℕ) → escape c ++ rest ≡ reference_then r rest) → Shown escape Plainly c

-- a character that stands for itself in text, and one that does in a value
abbrev pub InText : ℕ → Type 0
InText c = T (is_data c) × T (not (eqb c 62))

abbrev pub InValue : Quote → ℕ → Type 0
InValue q c = T (is_data_but (quote_mark q) c) × (cond (is_space c) 0x20 c ≡ c)

pub text_shown : (c : ℕ) → T (is_char c) → Shown escape_text InText c
text_shown c h =
    let S = Shown escape_text InText in
    test S c 38 (as_reference (entity_ref amp) tt refl (λ r. refl)) (λ e1.
    test S c 60 (as_reference (entity_ref lt) tt refl (λ r. refl)) (λ e2.
    test S c 62 (as_reference (entity_ref gt) tt refl (λ r. refl)) (λ e3.
    test S c 13 (as_reference (decimal_ref (49 ∷ 51 ∷ [])) ((tt, (tt, tt)), tt) refl (λ r. refl)) (λ e4.
    as_itself (and_T _ _ h (and_T _ _ (not_T_of e2) (not_T_of e1)), not_T_of e3) (λ r. simp (e1, e2, e3, e4))))))

-- white space other than a space is written by a reference
space_stays : (c : ℕ) → eqb c 9 ≡ false → eqb c 10 ≡ false → eqb c 13 ≡ false → cond (is_space c) 0x20 c ≡ c
space_stays c a b d =
    test (λ v. eqb v 9 ≡ false → eqb v 10 ≡ false → eqb v 13 ≡ false → cond (is_space v) 0x20 v ≡ v) c 32 (λ _ _ _. refl) (λ e a b d. simp (e, a, b, d)) a b d

quote_shown : (q : Quote) → Shown (escape_value q) (InValue q) (quote_mark q)
quote_shown Double = as_reference (entity_ref quot) tt refl (λ r. refl)
quote_shown Single = as_reference (entity_ref apos) tt refl (λ r. refl)

pub value_shown : (q : Quote) (c : ℕ) → T (is_char c) → Shown (escape_value q) (InValue q) c
value_shown q c h =
    let S = Shown (escape_value q) (InValue q) in
    test S c 38 (as_reference (entity_ref amp) tt refl (λ r. refl)) (λ e1.
    test S c 60 (as_reference (entity_ref lt) tt refl (λ r. refl)) (λ e2.
    test S c (quote_mark q) (quote_shown q) (λ e3.
    test S c 9 (tab q) (λ e4.
    test S c 10 (feed q) (λ e5.
    test S c 13 (return q) (λ e6.
    as_itself (and_T _ _ (and_T _ _ h (and_T _ _ (not_T_of e2) (not_T_of e1))) (not_T_of e3), space_stays c e4 e5 e6) (λ r. simp (e1, e2, e3, e4, e5, e6))))))))
  where
    tab : (q : Quote) → Shown (escape_value q) (InValue q) 9
    tab Double = as_reference (decimal_ref (57 ∷ [])) ((tt, tt), tt) refl (λ r. refl)
    tab Single = as_reference (decimal_ref (57 ∷ [])) ((tt, tt), tt) refl (λ r. refl)

    feed : (q : Quote) → Shown (escape_value q) (InValue q) 10
    feed Double = as_reference (decimal_ref (49 ∷ 48 ∷ [])) ((tt, (tt, tt)), tt) refl (λ r. refl)
    feed Single = as_reference (decimal_ref (49 ∷ 48 ∷ [])) ((tt, (tt, tt)), tt) refl (λ r. refl)

    return : (q : Quote) → Shown (escape_value q) (InValue q) 13
    return Double = as_reference (decimal_ref (49 ∷ 51 ∷ [])) ((tt, (tt, tt)), tt) refl (λ r. refl)
    return Single = as_reference (decimal_ref (49 ∷ 51 ∷ [])) ((tt, (tt, tt)), tt) refl (λ r. refl)
