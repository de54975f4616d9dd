-- Each test says exactly what it tests.
use Rattle.std.proofs.Common.{◌≡◌, ℕ, Bool, not, T, List, [], ◌∷◌, refl, T_not}
use Rattle.std.proofs.Math.Dec.{not_T}
use Rattle.std.proofs.lemmas.Slice.Eq.{bytes_eq-Decides}
use Rattle.std.specs.Str.{bytes_eq}
use Rattle.markup.specs.Attributes.{Attribute}
use Rattle.markup.specs.Characters.{is_char, is_name_start, is_name_char, ZeroOrMore, Name, Apart, Distinct}
use Rattle.markup.specs.Trees.{empty, character, element, Written, attribute_names, LegalAttributes, WellFormed}
use Rattle.markup.specs.Checks.{all_in, is_name, is_apart, are_distinct, are_legal, is_well_formed, Tests, Checks}
use Rattle.markup.proofs.Classes.{T_of, true_of, and_T, both}

pub all_in_tests : (class : ℕ → Bool) (cs : List ℕ) → Tests (all_in class cs) (ZeroOrMore class cs)
all_in_tests class [] = (λ h. h, λ h. h)
all_in_tests class (c ∷ cs) =
    let ih = all_in_tests class cs in
    (λ h. (let s = both (class c) _ h in (s.0, ih.0 s.1)), λ h. and_T (class c) _ h.0 (ih.1 h.1))

pub name_tests : (n : List ℕ) → Tests (is_name n) (Name n)
name_tests [] = (λ h. h, λ h. h)
name_tests (c ∷ cs) =
    let more = all_in_tests is_name_char cs in
    (λ h. (let s = both (is_name_start c) _ h in (s.0, more.0 s.1)), λ h. and_T (is_name_start c) _ h.0 (more.1 h.1))

pub same_refl : (x : List ℕ) → T (bytes_eq x x)
same_refl x = T_of ((bytes_eq-Decides x x).1 refl)

pub same_is : (x y : List ℕ) → T (bytes_eq x y) → x ≡ y
same_is x y h = (bytes_eq-Decides x y).0 (true_of _ h)

pub apart_tests : (x : List ℕ) (ys : List (List ℕ)) → Tests (is_apart x ys) (Apart x ys)
apart_tests x [] = (λ h. h, λ h. h)
apart_tests x (y ∷ ys) =
    let ih = apart_tests x ys in (
      λ h. (let s = both (not (bytes_eq x y)) _ h in ((λ e. T_not (bytes_eq x y) s.0 (T_of ((bytes_eq-Decides x y).1 e))), ih.0 s.1)),
      λ h. and_T (not (bytes_eq x y)) _ (not_T (bytes_eq x y) (λ t. h.0 (same_is x y t))) (ih.1 h.1),
    )

pub distinct_tests : (names : List (List ℕ)) → Tests (are_distinct names) (Distinct names)
distinct_tests [] = (λ h. h, λ h. h)
distinct_tests (x ∷ xs) =
    let a = apart_tests x xs in
    let ih = distinct_tests xs in
    (λ h. (let s = both (is_apart x xs) _ h in (a.0 s.0, ih.0 s.1)), λ h. and_T (is_apart x xs) _ (a.1 h.0) (ih.1 h.1))

pub legal_tests : (ps : List Attribute) → Tests (are_legal ps) (LegalAttributes ps)
legal_tests [] = (λ h. h, λ h. h)
legal_tests (p ∷ ps) =
    let n = name_tests p.name in
    let v = all_in_tests is_char p.value in
    let ih = legal_tests ps in (
      λ h. (let s = both (is_name p.name) _ h in let t = both (all_in is_char p.value) _ s.1 in (n.0 s.0, v.0 t.0, ih.0 t.1)),
      λ h. and_T (is_name p.name) _ (n.1 h.0) (and_T (all_in is_char p.value) _ (v.1 h.1) (ih.1 h.2)),
    )

pub well_formed_tests : (m : Written) → Tests (is_well_formed m) (WellFormed m)
well_formed_tests empty = (λ h. h, λ h. h)
well_formed_tests (character c m) =
    let ih = well_formed_tests m in
    (λ h. (let s = both (is_char c) _ h in (s.0, ih.0 s.1)), λ h. and_T (is_char c) _ h.0 (ih.1 h.1))
well_formed_tests (element n ps k m) =
    let a = name_tests n in
    let b = legal_tests ps in
    let d = distinct_tests (attribute_names ps) in
    let ik = well_formed_tests k in
    let im = well_formed_tests m in (
      λ h.
          (let s = both (is_name n) _ h in
          let t = both (are_legal ps) _ s.1 in
          let u = both (are_distinct (attribute_names ps)) _ t.1 in
          let v = both (is_well_formed k) _ u.1 in
          (a.0 s.0, b.0 t.0, d.0 u.0, ik.0 v.0, im.0 v.1)),
      λ h. and_T (is_name n) _ (a.1 h.0) (and_T (are_legal ps) _ (b.1 h.1) (and_T (are_distinct (attribute_names ps)) _ (d.1 h.2) (and_T (is_well_formed k) _ (ik.1 h.3) (im.1 h.4)))),
    )

pub checks : Checks
checks = record { all_in = all_in_tests; name = name_tests; distinct = distinct_tests; legal = legal_tests; well_formed = well_formed_tests }
