-- Two texts that are the same, taken apart: where a class of characters ends, and which reference stands there.
use Rattle.std.proofs.Common.{◌≡◌, ℕ, ◌+◌, Bool, cond, not, T, eqb, List, [], ◌∷◌, ◌++◌, sym, refl, ap, ◌∙◌, subst, ap₂, inl, inr, eqb→eq, T_not}
use lib.Dec.{eqb_refl}
use Rattle.markup.specs.Characters.{ZeroOrMore, OneOrMore, Name, is_space, is_digit, is_hex_digit, is_name_start, is_name_char}
use Rattle.markup.specs.CharacterReferences.{Entity, amp, lt, gt, quot, apos, entity_name, entity_character, Reference, entity_ref, decimal_ref, hexadecimal_ref, reference_then, referred, ReferenceStands}
use Rattle.markup.proofs.Classes.{not_in, or_T, or_first}

pub head_same : {x y : ℕ} {xs ys : List ℕ} → x ∷ xs ≡ y ∷ ys → x ≡ y
head_same e = cc

pub tail_same : {x y : ℕ} {xs ys : List ℕ} → x ∷ xs ≡ y ∷ ys → xs ≡ ys
tail_same e = cc

pub no_nil : {x : ℕ} {xs : List ℕ} → [] ≡ x ∷ xs → ⊥
no_nil e = cc

-- two numerals that differ: `clash e tt`
pub clash : {x y : ℕ} {xs ys : List ℕ} → x ∷ xs ≡ y ∷ ys → T (not (eqb x y)) → ⊥
clash {x} {y} e h = T_not (eqb x y) h (subst (λ v. T (eqb x v)) (head_same e) (eqb_refl x))

-- what follows does not go on with the class
abbrev pub Stops : (ℕ → Bool) → List ℕ → Type 0
Stops class [] = Unit {0}
Stops class (c ∷ rest) = T (not (class c))

pub span :
    (class : ℕ → Bool) (xs ys r q : List ℕ) → ZeroOrMore class xs → ZeroOrMore class ys → Stops class r → Stops class q → xs ++ r ≡ ys ++ q → (xs ≡ ys) × (r ≡ q)
span class [] [] r q a b s u e = (refl, e)
span class [] (y ∷ ys) [] q a b s u e = absurd (no_nil e)
span class [] (y ∷ ys) (c ∷ r) q a b s u e = absurd (not_in class b.0 s (sym (head_same e)))
span class (x ∷ xs) [] r [] a b s u e = absurd (no_nil (sym e))
span class (x ∷ xs) [] r (c ∷ q) a b s u e = absurd (not_in class a.0 u (head_same e))
span class (x ∷ xs) (y ∷ ys) r q a b s u e =
    let ih = span class xs ys r q a.1 b.1 s u (tail_same e) in
    (ap₂ ◌∷◌ (head_same e) ih.0, ih.1)

-- References. The five names differ in the sum of their letters.

letters : List ℕ → ℕ
letters [] = 0
letters (x ∷ xs) = x + letters xs

by_letters : ℕ → ℕ
by_letters n = cond (eqb n 318) 38 (cond (eqb n 224) 60 (cond (eqb n 219) 62 (cond (eqb n 457) 34 39)))

entity_by_letters : (e : Entity) → by_letters (letters (entity_name e)) ≡ entity_character e
unfolding by_letters letters
entity_by_letters amp = refl
entity_by_letters lt = refl
entity_by_letters gt = refl
entity_by_letters quot = refl
entity_by_letters apos = refl

no_semicolon : ℕ → Bool
no_semicolon c = not (eqb c 59)

entity_no_semicolon : (e : Entity) → ZeroOrMore no_semicolon (entity_name e)
unfolding no_semicolon
entity_no_semicolon amp = (tt, (tt, (tt, tt)))
entity_no_semicolon lt = (tt, (tt, tt))
entity_no_semicolon gt = (tt, (tt, tt))
entity_no_semicolon quot = (tt, (tt, (tt, (tt, tt))))
entity_no_semicolon apos = (tt, (tt, (tt, (tt, tt))))

entity_no_hash : (e : Entity) (r q : List ℕ) → entity_name e ++ r ≡ 35 ∷ q → ⊥
entity_no_hash amp r q e = clash e tt
entity_no_hash lt r q e = clash e tt
entity_no_hash gt r q e = clash e tt
entity_no_hash quot r q e = clash e tt
entity_no_hash apos r q e = clash e tt

semicolon_stops : (r : List ℕ) → Stops no_semicolon (59 ∷ r)
unfolding no_semicolon
semicolon_stops r = tt

pub some_is_many : (class : ℕ → Bool) (xs : List ℕ) → OneOrMore class xs → ZeroOrMore class xs
some_is_many class [] h = elim h [ ]
some_is_many class (x ∷ xs) h = h

decimal_no_x : (ds : List ℕ) (r q : List ℕ) → OneOrMore is_digit ds → ds ++ r ≡ 120 ∷ q → ⊥
decimal_no_x [] r q h e = h
decimal_no_x (d ∷ ds) r q h e = not_in is_digit h.0 tt (head_same e)

-- two references that are written alike refer to one character
pub reference_same : (f g : Reference) (r q : List ℕ) → ReferenceStands f → ReferenceStands g → reference_then f r ≡ reference_then g q → (referred f ≡ referred g) × (r ≡ q)
reference_same (entity_ref a) (entity_ref b) r q w v e =
    let s = span no_semicolon (entity_name a) (entity_name b) (59 ∷ r) (59 ∷ q) (entity_no_semicolon a) (entity_no_semicolon b) (semicolon_stops r) (semicolon_stops q) (tail_same e) in
    (sym (entity_by_letters a) ∙ ap (λ x. by_letters (letters x)) s.0 ∙ entity_by_letters b, tail_same s.1)
reference_same (entity_ref a) (decimal_ref ds) r q w v e = absurd (entity_no_hash a _ _ (tail_same e))
reference_same (entity_ref a) (hexadecimal_ref ds) r q w v e = absurd (entity_no_hash a _ _ (tail_same e))
reference_same (decimal_ref ds) (entity_ref a) r q w v e = absurd (entity_no_hash a _ _ (sym (tail_same e)))
reference_same (hexadecimal_ref ds) (entity_ref a) r q w v e = absurd (entity_no_hash a _ _ (sym (tail_same e)))
reference_same (decimal_ref ds) (decimal_ref cs) r q w v e =
    let s = span is_digit ds cs (59 ∷ r) (59 ∷ q) (some_is_many is_digit ds w.0) (some_is_many is_digit cs v.0) tt tt (tail_same (tail_same e)) in
    (ap (λ x. referred (decimal_ref x)) s.0, tail_same s.1)
reference_same (hexadecimal_ref ds) (hexadecimal_ref cs) r q w v e =
    let s = span is_hex_digit ds cs (59 ∷ r) (59 ∷ q) (some_is_many is_hex_digit ds w.0) (some_is_many is_hex_digit cs v.0) tt tt (tail_same (tail_same (tail_same e))) in
    (ap (λ x. referred (hexadecimal_ref x)) s.0, tail_same s.1)
reference_same (decimal_ref ds) (hexadecimal_ref cs) r q w v e = absurd (decimal_no_x ds _ _ w.0 (tail_same (tail_same e)))
reference_same (hexadecimal_ref cs) (decimal_ref ds) r q w v e = absurd (decimal_no_x ds _ _ v.0 (sym (tail_same (tail_same e))))

-- each begins with &
pub reference_head : (f : Reference) (r : List ℕ) → (q : List ℕ) × (reference_then f r ≡ 38 ∷ q)
reference_head (entity_ref a) r = (_, refl)
reference_head (decimal_ref ds) r = (_, refl)
reference_head (hexadecimal_ref ds) r = (_, refl)

-- Names and white space

start_in_name : (c : ℕ) → T (is_name_start c) → T (is_name_char c)
start_in_name c h = or_first (is_name_start c) _ h

pub name_all : (n : List ℕ) → Name n → ZeroOrMore is_name_char n
name_all [] h = elim h [ ]
name_all (c ∷ cs) h = (start_in_name c h.0, h.1)

-- what holds of the four white space characters holds of each
pub each_space : (P : ℕ → Type 0) → P 32 → P 9 → P 13 → P 10 → (c : ℕ) → T (is_space c) → P c
each_space P a b d e c h =
    elim (or_T _ _ h) [
      | inl k ↦ subst P (sym (eqb→eq c 32 k)) a
      | inr h ↦ elim (or_T _ _ h) [
        | inl k ↦ subst P (sym (eqb→eq c 9 k)) b
        | inr h ↦ elim (or_T _ _ h) [ inl k ↦ subst P (sym (eqb→eq c 13 k)) d | inr k ↦ subst P (sym (eqb→eq c 10 k)) e ]
      ]
    ]

pub space_stops : (s r : List ℕ) (c : ℕ) → ZeroOrMore is_space s → T (not (is_name_char c)) → Stops is_name_char (s ++ (c ∷ r))
space_stops [] r c h g = g
space_stops (x ∷ s) r c h g = each_space (λ v. T (not (is_name_char v))) tt tt tt tt x h.0

pub name_head : (c : ℕ) (r n q : List ℕ) → T (not (is_name_start c)) → Name n → c ∷ r ≡ n ++ q → ⊥
name_head c r [] q g h e = h
name_head c r (d ∷ n) q g h e = not_in is_name_start h.0 g (sym (head_same e))

-- white space before what is no white space is nothing
pub no_space : (s r q : List ℕ) {c : ℕ} → ZeroOrMore is_space s → T (not (is_space c)) → s ++ r ≡ c ∷ q → (s ≡ []) × (r ≡ c ∷ q)
no_space [] r q h g e = (refl, e)
no_space (x ∷ s) r q h g e = absurd (not_in is_space h.0 g (head_same e))

pub space_name : (s r n q : List ℕ) → ZeroOrMore is_space s → Name n → s ++ r ≡ n ++ q → r ≡ n ++ q
space_name s r [] q a h e = elim h [ ]
space_name [] r (c ∷ n) q a h e = e
space_name (x ∷ s) r (c ∷ n) q a h e = absurd (not_in is_name_start h.0 (each_space (λ v. T (not (is_name_start v))) tt tt tt tt x a.0) (sym (head_same e)))
