-- The fold over a family's name finds exactly identifiers joined by single spaces.
use Rattle.std.proofs.Common.{◌≡◌, ℕ, Bool, true, false, cond, not, ◌||◌, eqb, ◌⊎◌, List, [], ◌∷◌, ◌++◌, map, Decides, fold, Option, Some, None, sym, refl, ap, ◌∙◌, subst, inl, inr, append_assoc}
use Rattle.std.specs.Char.{to_ascii_lowercase}
use Rattle.std.specs.List.{AllByRecursion, list_any}
use Rattle.std.proofs.lemmas.List.{append-nil}
use Rattle.std.proofs.lemmas.Bool.{false≢true, eqb-true}
use Rattle.std.proofs.lemmas.Bool.Decides.{Decides-and, Decides-not}
use Rattle.std.proofs.lemmas.Slice.Eq.{bytes_eq-Decides}
use Rattle.checks.specs.declared.families.Spot.{Spot}
use Rattle.checks.specs.declared.families.Spot.TheVariants.{Start, Hyphen, Inside}
use Rattle.checks.specs.Families.{starts_identifier, in_identifier, one_more, spot_after, is_inside, word}
use Rattle.checks.specs.BareNames.{Identifier, spaced, Identifiers, reserved, BareNamesStand}

abbrev from : Option Spot → List ℕ → Bool
from spot bytes = is_inside (fold one_more spot bytes)

wrong_stays : (bytes : List ℕ) → from None bytes ≡ true → ⊥
wrong_stays [] e = false≢true e
wrong_stays (b ∷ bytes) e = wrong_stays bytes e

-- ---- what is left of a name, at each spot

-- inside an identifier: bytes of it, then nothing, or a space and more identifiers
pub record Rest (bytes : List ℕ) : Type 0 where
  pub run : List ℕ
  pub goes_on : AllByRecursion (λ b. in_identifier b ≡ true) run
  pub ends : (bytes ≡ run) ⊎ ((more : List ℕ) × ((bytes ≡ run ++ (32 ∷ more)) × Identifiers more))

pub record AfterHyphen (bytes : List ℕ) : Type 0 where
  pub first : ℕ
  pub others : List ℕ
  pub spelled : bytes ≡ first ∷ others
  pub starts : starts_identifier first ≡ true
  pub rest : Rest others

abbrev Left : Option Spot → List ℕ → Type 0
Left (Some Start) bytes = Identifiers bytes
Left (Some Hyphen) bytes = AfterHyphen bytes
Left (Some Inside) bytes = Rest bytes
Left None bytes = ⊥

longer : (b : ℕ) (bytes : List ℕ) → in_identifier b ≡ true → Rest bytes → Rest (b ∷ bytes)
longer b bytes e r = record {
  run = b ∷ r.run;
  goes_on = (e, r.goes_on);
  ends = elim r.ends [
    | inl p ↦ inl (ap (λ (l : List ℕ). b ∷ l) p)
    | inr p ↦ inr (p.0, (ap (λ (l : List ℕ). b ∷ l) p.1.0, p.1.1))
  ];
}

-- an identifier that begins with these bytes
identifiers_of : (front : List ℕ) (bytes : List ℕ) → ((run : List ℕ) → AllByRecursion (λ b. in_identifier b ≡ true) run → Identifier (front ++ run)) → Rest bytes → Identifiers (front ++ bytes)
identifiers_of front bytes whole r = elim r.ends [
  | inl p ↦ record { first = front ++ r.run; others = []; first_one = whole r.run r.goes_on; other_ones = tt; spelled = ap (λ (l : List ℕ). front ++ l) p }
  | inr p ↦ record {
    first = front ++ r.run;
    others = p.1.1.first ∷ p.1.1.others;
    first_one = whole r.run r.goes_on;
    other_ones = (p.1.1.first_one, p.1.1.other_ones);
    spelled =
        ap (λ (l : List ℕ). front ++ l) (p.1.0 ∙ ap (λ (l : List ℕ). r.run ++ (32 ∷ l)) p.1.1.spelled)
        ∙ sym (append_assoc front r.run (32 ∷ spaced p.1.1.first p.1.1.others));
  }
]

plain_start : (b : ℕ) → starts_identifier b ≡ true → (run : List ℕ) → AllByRecursion (λ c. in_identifier c ≡ true) run → Identifier (b ∷ run)
plain_start b e run k = record { first = b; others = run; starts = e; goes_on = k; spelled = inl refl }

hyphen_start : (b : ℕ) → starts_identifier b ≡ true → (run : List ℕ) → AllByRecursion (λ c. in_identifier c ≡ true) run → Identifier (45 ∷ (b ∷ run))
hyphen_start b e run k = record { first = b; others = run; starts = e; goes_on = k; spelled = inr refl }

left : (spot : Option Spot) (bytes : List ℕ) → from spot bytes ≡ true → Left spot bytes
left (Some Start) [] e = absurd (false≢true e)
left (Some Hyphen) [] e = absurd (false≢true e)
left (Some Inside) [] e = record { run = []; goes_on = tt; ends = inl refl }
left None bytes e = wrong_stays bytes e
left (Some Start) (b ∷ bytes) e = go (λ spot. left spot bytes) (starts_identifier b) (eqb b 45) refl refl e
  where
    go : ((spot : Option Spot) → from spot bytes ≡ true → Left spot bytes) → (s h : Bool) → starts_identifier b ≡ s → eqb b 45 ≡ h → from (cond s (Some Inside) (cond h (Some Hyphen) None)) bytes ≡ true → Identifiers (b ∷ bytes)
    go again true h p q k = identifiers_of (b ∷ []) bytes (plain_start b p) (again (Some Inside) k)
    go again false true p q k =
        let a = again (Some Hyphen) k in
        let i = identifiers_of (45 ∷ (a.first ∷ [])) a.others (hyphen_start a.first a.starts) a.rest in
        let s : 45 ∷ (a.first ∷ a.others) ≡ b ∷ bytes = let h = eqb-true b 45 q in let t = a.spelled in cc in
        subst (λ (l : List ℕ). Identifiers l) s i
    go again false false p q k = absurd (wrong_stays bytes k)
left (Some Hyphen) (b ∷ bytes) e = go (λ spot. left spot bytes) (starts_identifier b) refl e
  where
    go : ((spot : Option Spot) → from spot bytes ≡ true → Left spot bytes) → (s : Bool) → starts_identifier b ≡ s → from (cond s (Some Inside) None) bytes ≡ true → AfterHyphen (b ∷ bytes)
    go again true p k = record { first = b; others = bytes; spelled = refl; starts = p; rest = again (Some Inside) k }
    go again false p k = absurd (wrong_stays bytes k)
left (Some Inside) (b ∷ bytes) e = go (λ spot. left spot bytes) (in_identifier b) (eqb b 32) refl refl e
  where
    go : ((spot : Option Spot) → from spot bytes ≡ true → Left spot bytes) → (s h : Bool) → in_identifier b ≡ s → eqb b 32 ≡ h → from (cond s (Some Inside) (cond h (Some Start) None)) bytes ≡ true → Rest (b ∷ bytes)
    go again true h p q k = longer b bytes p (again (Some Inside) k)
    go again false true p q k = record { run = []; goes_on = tt; ends = inr (bytes, (ap (λ (n : ℕ). n ∷ bytes) (eqb-true b 32 q), again (Some Start) k)) }
    go again false false p q k = absurd (wrong_stays bytes k)

-- ---- and back

inside_run : (run bytes : List ℕ) → AllByRecursion (λ b. in_identifier b ≡ true) run → from (Some Inside) (run ++ bytes) ≡ from (Some Inside) bytes
inside_run [] bytes k = refl
inside_run (b ∷ run) bytes k = ap (λ (s : Bool). from (cond s (Some Inside) (cond (eqb b 32) (Some Start) None)) (run ++ bytes)) k.0 ∙ inside_run run bytes k.1

identifier_run : (one bytes : List ℕ) → Identifier one → from (Some Start) (one ++ bytes) ≡ from (Some Inside) bytes
identifier_run one bytes i = elim i.spelled [
  | inl p ↦ ap (λ (l : List ℕ). from (Some Start) (l ++ bytes)) p
      ∙ (ap (λ (s : Bool). from (cond s (Some Inside) (cond (eqb i.first 45) (Some Hyphen) None)) (i.others ++ bytes)) i.starts ∙ inside_run i.others bytes i.goes_on)
  | inr p ↦ ap (λ (l : List ℕ). from (Some Start) (l ++ bytes)) p
      ∙ (ap (λ (s : Bool). from (cond s (Some Inside) None) (i.others ++ bytes)) i.starts ∙ inside_run i.others bytes i.goes_on)
]

all_spaced : (first : List ℕ) (others : List (List ℕ)) → Identifier first → AllByRecursion Identifier others → from (Some Start) (spaced first others) ≡ true
all_spaced first [] i k = ap (from (Some Start)) (sym (append-nil first)) ∙ identifier_run first [] i
all_spaced first (next ∷ others) i k = identifier_run first (32 ∷ spaced next others) i ∙ all_spaced next others k.0 k.1

decides_identifiers : (bytes : List ℕ) → Decides (is_inside (spot_after bytes)) (Identifiers bytes)
unfolding spot_after
decides_identifiers bytes = (
  (λ e. left (Some Start) bytes e),
  (λ i. ap (from (Some Start)) i.spelled ∙ all_spaced i.first i.others i.first_one i.other_ones),
)

-- ---- the nine words

abbrev Not : List ℕ → List ℕ → Type 0
Not bytes letters = map to_ascii_lowercase bytes ≡ letters → ⊥

decides_not_word : (letters bytes : List ℕ) → Decides (not (word letters bytes)) (Not bytes letters)
unfolding word
decides_not_word letters bytes = Decides-not _ (bytes_eq-Decides (map to_ascii_lowercase bytes) letters)

decides_neither : {P Q : Type 0} (a b : Bool) → Decides (not a) P → Decides (not b) Q → Decides (not (a || b)) (P × Q)
decides_neither true b p q = Decides-and false (not b) p q
decides_neither false b p q = Decides-and true (not b) p q

decides_none : (bytes : List ℕ) (words : List (List ℕ)) → Decides (not (list_any (λ letters. word letters bytes) words)) (AllByRecursion (Not bytes) words)
decides_none bytes [] = ((λ _. tt), (λ _. refl))
decides_none bytes (letters ∷ words) = decides_neither _ _ (decides_not_word letters bytes) (decides_none bytes words)

pub bare_names_stand : BareNamesStand
bare_names_stand bytes = Decides-and _ _ (decides_identifiers bytes) (decides_none bytes reserved)
