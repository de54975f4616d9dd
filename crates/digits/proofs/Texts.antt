-- Plain texts and what they say: a plain text is the spelling of its units and places, and a spelling says just those.
use Rattle.std.proofs.Common.{◌≡◌, ℕ, zero, suc, ◌+◌, ◌-◌, ◌*◌, ◌/◌, ◌%◌, ◌^◌, ◌<◌, ◌≤◌, Bool, true, false, cond, eqb, List, [], ◌∷◌, ◌++◌, length, get_or, decimal, sym, refl, ap, ◌∙◌, subst, inl, inr, le_refl, mul_assoc, mul_comm, eq-zero-or-pos, pow-suc, div-add-mod', div-le_self, arith, lit<, pow-add, rules, append-nil}
use native.Mathlib.Nat.{mul-mod_left, pow-le-pow_right, eq_of_mul-eq-mul_right}
use lib.Arith.{digits_div, mod-mul}
use Rattle.std.proofs.lemmas.Fmt.{digits_decimal, digits_value-decimal, decimal-digits_value, decimal_nonempty, decimal_digit, first_decimal}
use Rattle.std.proofs.lemmas.Str.Parse.{IsNumeralModel, numerals_by_fold, digits_value_short, tells_all_ascii_digits}
use Rattle.std.proofs.lemmas.Bool.Decides.{nat_tests}
use Rattle.std.specs.Int.{IsInRange}
use Rattle.std.specs.Fmt.{sign_text}
use Rattle.std.specs.List.{AllByRecursion}
use Rattle.std.specs.Str.{all_ascii_digits}
use Rattle.digits.specs.Decimals.{said_after, said, minus, after_minus, without_point, behind_point, units, places, reads, nearest_float, after_point, Plain, NumberByte, figures, pointed, spelling}

pub own : IsNumeralModel (λ (ds : List ℕ). all_ascii_digits ds ≡ true) said
own = numerals_by_fold (λ (ds : List ℕ). all_ascii_digits ds ≡ true) tells_all_ascii_digits said_after (search rules)

pub ten_pos : (k : ℕ) → 0 < 10 ^ k
ten_pos k = let b : 0 ≤ k = omega arith in pow-le-pow_right {n = 10} (lit< tt) b

-- ---- digits
digit : (c : ℕ) (cs : List ℕ) → all_ascii_digits (c ∷ cs) ≡ true → IsInRange 48 57 c
digit c cs h = grind arith

digits : (c : ℕ) (cs : List ℕ) → all_ascii_digits (c ∷ cs) ≡ true → all_ascii_digits cs ≡ true
digits c cs h = grind arith

no_point : (c : ℕ) → IsInRange 48 57 c → eqb c 46 ≡ false
no_point c h = grind (arith, nat_tests)

-- the number so far, and what the other digits say
pub said_from : (w : ℕ) (ds : List ℕ) → said_after w ds ≡ w * 10 ^ length ds + said ds
said_from w [] = omega arith
said_from w (c ∷ cs) =
    let k = length cs in
    let a = said_from (10 * w + (c - 48)) cs in
    let b = said_from (10 * 0 + (c - 48)) cs in
    let e : w * 10 ^ suc k ≡ w * (10 ^ k * 10) = ap (λ (z : ℕ). w * z) (pow-suc 10 k) in
    omega arith

said_append : (w : ℕ) (ds es : List ℕ) → said_after w (ds ++ es) ≡ said_after (said_after w ds) es
said_append w [] es = refl
said_append w (c ∷ cs) es = said_append (10 * w + (c - 48)) cs es

said_lt : (ds : List ℕ) → all_ascii_digits ds ≡ true → said ds < 10 ^ length ds
said_lt ds h = grind (arith, digits_value_short, own, le_refl)

-- ---- figures
pub length_figures : (k n : ℕ) → length (figures k n) ≡ k
length_figures zero n = refl
length_figures (suc k) n = ap suc (length_figures k n)

pub digits_figures : (k n : ℕ) → all_ascii_digits (figures k n) ≡ true
digits_figures zero n = refl
digits_figures (suc k) n = tells_all_ascii_digits.more (48 + n / 10 ^ k % 10) (figures k n) (omega arith) (digits_figures k n)

pub said_figures : (k n : ℕ) → said (figures k n) ≡ n % 10 ^ k
said_figures zero n = sym (native.Mathlib.Nat.mod-one n)
said_figures (suc k) n =
    let q = n / 10 ^ k % 10 in
    let a = said_from (10 * 0 + (48 + q - 48)) (figures k n) in
    let z : 10 * 0 + (48 + q - 48) ≡ q = omega arith in
    let b : said_after (10 * 0 + (48 + q - 48)) (figures k n) ≡ q * 10 ^ k + n % 10 ^ k =
    ap (λ (w : ℕ). said_after w (figures k n)) z ∙ said_from q (figures k n) ∙ ap (λ (w : ℕ). q * 10 ^ w + said (figures k n)) (length_figures k n) ∙ ap (λ (w : ℕ). q * 10 ^ k + w) (said_figures k n) in
    b ∙ sym (mod-mul n {m = 10} {c = 10 ^ k} (lit< tt) (ten_pos k)) ∙ ap (λ (w : ℕ). n % w) (mul_comm 10 (10 ^ k) ∙ sym (pow-suc 10 k))

pub figures_said : (w : ℕ) (ds : List ℕ) → all_ascii_digits ds ≡ true → figures (length ds) (said_after w ds) ≡ ds
figures_said w [] h = refl
figures_said w (c ∷ cs) h =
    let k = length cs in
    let v = 10 * w + (c - 48) in
    let i = digit c cs h in
    let l : said cs < 10 ^ k = said_lt cs (digits c cs h) in
    let q : said_after v cs / 10 ^ k ≡ v = ap (λ (z : ℕ). z / 10 ^ k) (said_from v cs) ∙ digits_div v l in
    let d : v % 10 ≡ c - 48 = omega arith in
    let f : 48 + said_after v cs / 10 ^ k % 10 ≡ c = ap (λ (z : ℕ). 48 + z % 10) q ∙ ap (λ (z : ℕ). 48 + z) d ∙ omega arith in
    ap (λ (z : ℕ). z ∷ figures k (said_after v cs)) f ∙ ap (λ (z : List ℕ). c ∷ z) (figures_said v cs (digits c cs h))

last_figure : (k n : ℕ) → get_or (figures (suc k) n) k 0 ≡ 48 + n % 10
last_figure zero n = grind arith
last_figure (suc k) n = last_figure k n

-- the last digit of digits is that of the number
last_said : (w : ℕ) (ds : List ℕ) → 0 < length ds → all_ascii_digits ds ≡ true → get_or ds (length ds - 1) 0 ≡ 48 + said_after w ds % 10
last_said w [] p h = absurd (omega arith)
last_said w (c ∷ cs) p h =
    let e : length (c ∷ cs) - 1 ≡ length cs = omega arith in
    ap (λ (z : ℕ). get_or (c ∷ cs) z 0) e
    ∙ ap (λ (z : List ℕ). get_or z (length cs) 0) (sym (figures_said w (c ∷ cs) h))
    ∙ last_figure (length cs) (said_after w (c ∷ cs))

-- ---- a text and its parts
keeps_digits : (ds es : List ℕ) → all_ascii_digits ds ≡ true → without_point (ds ++ es) ≡ ds ++ without_point es
keeps_digits [] es h = refl
keeps_digits (c ∷ cs) es h =
    ap (λ (b : Bool). cond b (without_point (cs ++ es)) (c ∷ without_point (cs ++ es))) (no_point c (digit c cs h))
    ∙ ap (λ (z : List ℕ). c ∷ z) (keeps_digits cs es (digits c cs h))

skips_digits : (ds es : List ℕ) → all_ascii_digits ds ≡ true → behind_point (ds ++ es) ≡ behind_point es
skips_digits [] es h = refl
skips_digits (c ∷ cs) es h = ap (λ (b : Bool). cond b (length (cs ++ es)) (behind_point (cs ++ es))) (no_point c (digit c cs h)) ∙ skips_digits cs es (digits c cs h)

fraction_kept : (fs : List ℕ) → all_ascii_digits fs ≡ true → without_point (after_point fs) ≡ fs
fraction_kept [] h = refl
fraction_kept (c ∷ cs) h = ap without_point (sym (append-nil (c ∷ cs))) ∙ keeps_digits (c ∷ cs) [] h ∙ append-nil (c ∷ cs)

fraction_length : (fs : List ℕ) → behind_point (after_point fs) ≡ length fs
fraction_length [] = refl
fraction_length (c ∷ cs) = refl

minus_is : (s : Bool) (w r : List ℕ) → 0 < length w → all_ascii_digits w ≡ true → minus (sign_text s ++ (w ++ r)) ≡ s
minus_is true w r p h = refl
minus_is false [] r p h = absurd (omega arith)
minus_is false (c ∷ cs) r p h = grind arith

after_minus_is : (s : Bool) (w r : List ℕ) → 0 < length w → all_ascii_digits w ≡ true → after_minus (sign_text s ++ (w ++ r)) ≡ w ++ r
after_minus_is true w r p h = refl
after_minus_is false [] r p h = absurd (omega arith)
after_minus_is false (c ∷ cs) r p h = grind arith

pub plain_minus : (bs : List ℕ) (p : Plain bs) → minus bs ≡ p.negative
plain_minus bs p = grind (arith, minus_is, after_point)

plain_rest : (bs : List ℕ) (p : Plain bs) → after_minus bs ≡ p.whole ++ after_point p.fraction
plain_rest bs p = grind (arith, after_minus, after_minus_is, after_point)

pub plain_units : (bs : List ℕ) (p : Plain bs) → units bs ≡ said_after (said p.whole) p.fraction
plain_units bs p = grind (arith, without_point, plain_rest, keeps_digits, after_point, fraction_kept, said_append)

pub plain_places : (bs : List ℕ) (p : Plain bs) → places bs ≡ length p.fraction
plain_places bs p = grind (arith, behind_point, plain_rest, skips_digits, after_point, fraction_length)

-- ---- a decimal in lowest terms: whole, or with a last digit that is not zero
abbrev pub Lowest : ℕ → ℕ → Type 0
Lowest n k = 0 < k → n % 10 ≡ 0 → ⊥

pub whole_lowest : (n : ℕ) → Lowest n 0
whole_lowest n h z = omega arith

pub plain_lowest : (bs : List ℕ) → Plain bs → Lowest (units bs) (places bs)
plain_lowest bs p h z =
    let f = p.fraction in
    let e = plain_units bs p in
    let l : 0 < length f = subst (λ (t : ℕ). 0 < t) (plain_places bs p) h in
    p.back (last_said (said p.whole) f l p.fraction_digits ∙ ap (λ (t : ℕ). 48 + t % 10) (sym e) ∙ ap (λ (t : ℕ). 48 + t) z)

pointed_is : (fs : List ℕ) (n : ℕ) → figures (length fs) n ≡ fs → pointed (length fs) n ≡ after_point fs
pointed_is [] n e = refl
pointed_is (c ∷ cs) n e = grind arith

-- a plain text is the spelling of what it says
pub plain_spelling : (bs : List ℕ) → Plain bs → units bs < 2 ^ 64 → bs ≡ spelling (minus bs) (units bs) (places bs)
plain_spelling bs p small =
    let w = p.whole in
    let f = p.fraction in
    let n = said_after (said w) f in
    let un = plain_units bs p in
    let l : said f < 10 ^ length f = said_lt f p.fraction_digits in
    let q : n / 10 ^ length f ≡ said w = ap (λ (z : ℕ). z / 10 ^ length f) (said_from (said w) f) ∙ digits_div (said w) l in
    let le : n / 10 ^ length f ≤ n = div-le_self n (10 ^ length f) in
    let sw : said w < 2 ^ 64 = (let u = un in let v = q in omega arith) in
    let d : decimal (said w) ≡ w = decimal-digits_value own w p.whole_digits p.some_digit p.front sw in
    let body : decimal (n / 10 ^ length f) ++ pointed (length f) n ≡ w ++ after_point f =
    ap (λ (z : ℕ). decimal z ++ pointed (length f) n) q ∙ ap (λ (z : List ℕ). z ++ pointed (length f) n) d
    ∙ ap (λ (z : List ℕ). w ++ z) (pointed_is f n (figures_said (said w) f p.fraction_digits)) in
    p.spelled
    ∙ sym (ap (λ (z : List ℕ). sign_text p.negative ++ z) body)
    ∙ ap (λ (z : Bool). sign_text z ++ (decimal (n / 10 ^ length f) ++ pointed (length f) n)) (sym (plain_minus bs p))
    ∙ ap (λ (z : ℕ). spelling (minus bs) z (length f)) (sym un)
    ∙ ap (λ (z : ℕ). spelling (minus bs) (units bs) z) (sym (plain_places bs p))

-- ---- a spelling is plain, and says what it spells
figures_pointed : (k n : ℕ) → pointed k n ≡ after_point (figures k n)
figures_pointed zero n = refl
figures_pointed (suc k) n = refl

last_of : (k n : ℕ) → Lowest n k → get_or (figures k n) (length (figures k n) - 1) 0 ≡ 48 → ⊥
last_of zero n h e = absurd (zero_digit e)
  where
    zero_digit : ◌≡◌ {A = ℕ} 0 48 → ⊥
    zero_digit z = omega arith
last_of (suc k) n h e =
    let i : length (figures (suc k) n) - 1 ≡ k = (let l = length_figures (suc k) n in omega arith) in
    let f : 48 + n % 10 ≡ 48 = sym (last_figure k n) ∙ ap (λ (z : ℕ). get_or (figures (suc k) n) z 0) (sym i) ∙ e in
    h (omega arith) (omega arith)

front_of : (n : ℕ) → n < 2 ^ 64 → get_or (decimal n) 0 0 ≡ 48 → length (decimal n) ≡ 1
front_of n small e = grind (arith, eq-zero-or-pos, decimal_digit, first_decimal)

pub spelling_plain : (s : Bool) (n k : ℕ) → n < 2 ^ 64 → Lowest n k → Plain (spelling s n k)
spelling_plain s n k small low =
    let W = n / 10 ^ k in
    let le : W ≤ n = div-le_self n (10 ^ k) in
    let sW : W < 2 ^ 64 = omega arith in
    record {
      negative = s;
      whole = decimal W;
      fraction = figures k n;
      spelled = ap (λ (z : List ℕ). sign_text s ++ (decimal W ++ z)) (figures_pointed k n);
      whole_digits = digits_decimal own W sW;
      fraction_digits = digits_figures k n;
      some_digit = decimal_nonempty W sW;
      front = front_of W sW;
      back = last_of k n low;
    }

pub record Says (bs : List ℕ) (s : Bool) (n k : ℕ) : Type 0 where
  pub sign_is : minus bs ≡ s
  pub units_are : units bs ≡ n
  pub places_are : places bs ≡ k

pub spelling_says : (s : Bool) (n k : ℕ) → n < 2 ^ 64 → Lowest n k → Says (spelling s n k) s n k
unfolding spelling_plain
spelling_says s n k small low =
    let p = spelling_plain s n k small low in
    let W = n / 10 ^ k in
    let le : W ≤ n = div-le_self n (10 ^ k) in
    let sW : W < 2 ^ 64 = omega arith in
    let bs = spelling s n k in
    record {
      sign_is = plain_minus bs p;
      units_are =
          plain_units bs p
          ∙ ap (λ (z : ℕ). said_after z (figures k n)) (digits_value-decimal own W sW)
          ∙ said_from W (figures k n)
          ∙ ap (λ (z : ℕ). W * 10 ^ z + said (figures k n)) (length_figures k n)
          ∙ ap (λ (z : ℕ). W * 10 ^ k + z) (said_figures k n)
          ∙ div-add-mod' n (10 ^ k);
      places_are = plain_places bs p ∙ length_figures k n;
    }

pub spelling_reads : (s : Bool) (n k : ℕ) → n < 2 ^ 64 → Lowest n k → reads (spelling s n k) ≡ nearest_float s n k
spelling_reads s n k small low = grind (arith, spelling_says, nearest_float)

-- ---- equal decimals in lowest terms are the same
ten_more : (m k d : ℕ) → m * 10 ^ (k + suc d) ≡ m * 10 ^ d * 10 * 10 ^ k
ten_more m k d = grind (arith, pow-add, pow-suc, mul_assoc, mul_comm)

not_finer : (n k n' d : ℕ) → Lowest n' (k + suc d) → n * 10 ^ (k + suc d) ≡ n' * 10 ^ k → ⊥
not_finer n k n' d low e = grind (arith, eq_of_mul-eq-mul_right, ten_pos, ten_more, mul-mod_left)

apart_by : (k k' : ℕ) → k < k' → (d : ℕ) × (k' ≡ k + suc d)
apart_by k k' h = (k' - suc k, omega arith)

pub lowest_places : (n k n' k' : ℕ) → Lowest n k → Lowest n' k' → n * 10 ^ k' ≡ n' * 10 ^ k → k ≡ k'
lowest_places n k n' k' low low' e = elim (Rattle.std.proofs.lemmas.Bool.cases_lt k k') [
  | inl h ↦
      let d = apart_by k k' h in
      absurd (not_finer n k n' d.0 (subst (λ (z : ℕ). Lowest n' z) d.1 low') (ap (λ (z : ℕ). n * 10 ^ z) (sym d.1) ∙ e))
  | inr g ↦ elim (Rattle.std.proofs.lemmas.Bool.cases_lt k' k) [
    | inl h ↦
        let d = apart_by k' k h in
        absurd (not_finer n' k' n d.0 (subst (λ (z : ℕ). Lowest n z) d.1 low) (ap (λ (z : ℕ). n' * 10 ^ z) (sym d.1) ∙ sym e))
    | inr l ↦ omega arith
  ]
]

pub lowest_units : (n k n' k' : ℕ) → k ≡ k' → n * 10 ^ k' ≡ n' * 10 ^ k → n ≡ n'
lowest_units n k n' k' q e = grind (arith, eq_of_mul-eq-mul_right, ten_pos)

-- ---- the bytes of a plain text
digits_bytes : (ds es : List ℕ) → all_ascii_digits ds ≡ true → AllByRecursion NumberByte es → AllByRecursion NumberByte (ds ++ es)
digits_bytes [] es h a = a
digits_bytes (c ∷ cs) es h a = (inr (inr (digit c cs h)), digits_bytes cs es (digits c cs h) a)

point_bytes : (fs : List ℕ) → all_ascii_digits fs ≡ true → AllByRecursion NumberByte (after_point fs)
point_bytes [] h = tt
point_bytes (c ∷ cs) h = (inr (inl refl), subst (AllByRecursion NumberByte) (append-nil (c ∷ cs)) (digits_bytes (c ∷ cs) [] h tt))

sign_bytes : (s : Bool) (bs : List ℕ) → AllByRecursion NumberByte bs → AllByRecursion NumberByte (sign_text s ++ bs)
sign_bytes true bs a = (inl refl, a)
sign_bytes false bs a = a

pub plain_bytes : (bs : List ℕ) → Plain bs → AllByRecursion NumberByte bs
plain_bytes bs p = grind (arith, sign_bytes, after_point, digits_bytes, point_bytes)
