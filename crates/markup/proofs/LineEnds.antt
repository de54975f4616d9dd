-- What is rendered holds no carriage return and no surrogate: its line ends are normal, and it has an encoding. With that,
-- the theorem on characters becomes the theorem on bytes.
use Rattle.std.proofs.Common.{◌≡◌, ℕ, Bool, true, false, ◌&&◌, ◌||◌, T, eqb, leb, List, [], ◌∷◌, ◌++◌, sym, refl, ap, ◌∙◌, inl, inr, arith, le→leb, leb→le}
use lib.Utf8.{scalars, scalar}
use Rattle.std.proofs.lemmas.Bool.Decides.{nat_tests}
use Rattle.markup.specs.declared.quotes.Quote.{Quote}
use Rattle.markup.specs.declared.quotes.Quote.TheVariants.{Double, Single}
use Rattle.markup.specs.Escapes.{quote_mark, escape_value, escape_text, value_then}
use Rattle.markup.specs.Attributes.{Attribute, attributes_then}
use Rattle.markup.specs.Characters.{between, in_ranges, name_start_ranges, name_more_ranges, is_char, is_name_start, is_name_char, ZeroOrMore, Name}
use Rattle.markup.specs.Trees.{empty, character, element, Written, is_empty, plain, LegalAttributes, WellFormed}
use Rattle.markup.specs.Renderings.{tag_end, render, written}
use Rattle.markup.specs.Readings.{normal_line_ends, Reading, ReadsBack}
use Rattle.markup.proofs.Classes.{both, or_T, and_T, test, or_first, or_second}
use Rattle.markup.proofs.EscapesIn.{HasEscapes, value_in, text_in}
use Rattle.markup.proofs.Exists.{made}
use Rattle.markup.proofs.OneMeaning.{one_meaning}

-- characters but the carriage return
abbrev clean_ranges : List (ℕ × ℕ)
clean_ranges = (9, 10) ∷ (0x20, 0xD7FF) ∷ (0xE000, 0xFFFD) ∷ (0x10000, 0x10FFFF) ∷ []

abbrev pub clean : ℕ → Bool
clean = in_ranges clean_ranges

-- Ranges inside ranges, by computing

abbrev inside_one : ℕ × ℕ → List (ℕ × ℕ) → Bool
inside_one p [] = false
inside_one p (q ∷ qs) = (leb q.0 p.0 && leb p.1 q.1) || inside_one p qs

abbrev all_inside : List (ℕ × ℕ) → List (ℕ × ℕ) → Bool
all_inside [] qs = true
all_inside (p ∷ ps) qs = inside_one p qs && all_inside ps qs

in_one : (c : ℕ) (p : ℕ × ℕ) (qs : List (ℕ × ℕ)) → T (inside_one p qs) → T (between p.0 p.1 c) → T (in_ranges qs c)
in_one c p [] h k = h
in_one c p (q ∷ qs) h k =
    elim (or_T _ _ h) [
      | inl z ↦ (let (a, b) = both (leb q.0 p.0) (leb p.1 q.1) z in
          let (d, e) = both (leb p.0 c) (leb c p.1) k in
          let a' = leb→le q.0 p.0 a in
          let b' = leb→le p.1 q.1 b in
          let d' = leb→le p.0 c d in
          let e' = leb→le c p.1 e in
          or_first _ _ (and_T _ _ (le→leb q.0 c (omega arith)) (le→leb c q.1 (omega arith))))
      | inr z ↦ or_second _ _ (in_one c p qs z k)
    ]

in_all : (c : ℕ) (ps qs : List (ℕ × ℕ)) → T (all_inside ps qs) → T (in_ranges ps c) → T (in_ranges qs c)
in_all c [] qs h k = elim k [ ]
in_all c (p ∷ ps) qs h k =
    let (a, b) = both (inside_one p qs) (all_inside ps qs) h in
    elim (or_T _ _ k) [ inl z ↦ in_one c p qs a z | inr z ↦ in_all c ps qs b z ]

-- Each part of a rendering is clean

clean_start : (c : ℕ) → T (is_name_start c) → T (clean c)
clean_start c h = in_all c name_start_ranges clean_ranges tt h

clean_name_char : (c : ℕ) → T (is_name_char c) → T (clean c)
clean_name_char c h = elim (or_T (is_name_start c) (in_ranges name_more_ranges c) h) [ inl k ↦ clean_start c k | inr k ↦ in_all c name_more_ranges clean_ranges tt k ]

clean_name_chars : (n : List ℕ) → ZeroOrMore is_name_char n → ZeroOrMore clean n
clean_name_chars [] h = tt
clean_name_chars (c ∷ n) h = (clean_name_char c h.0, clean_name_chars n h.1)

clean_name : (n : List ℕ) → Name n → ZeroOrMore clean n
clean_name [] h = elim h [ ]
clean_name (c ∷ n) h = (clean_start c h.0, clean_name_chars n h.1)

clean_char : (c : ℕ) → T (is_char c) → eqb c 13 ≡ false → T (clean c)
clean_char c h e = grind (arith, nat_tests)

clean_escapes : HasEscapes clean
clean_escapes = record { amp = tt; lt = tt; gt = tt; quot = tt; apos = tt; tab = tt; feed = tt; return = tt }

clean_text : (c : ℕ) → T (is_char c) → ZeroOrMore clean (escape_text c)
clean_text c h = text_in clean clean_escapes c (clean_char c h)

clean_value_char : (q : Quote) (c : ℕ) → T (is_char c) → ZeroOrMore clean (escape_value q c)
clean_value_char q c h = value_in clean clean_escapes q c (clean_char c h)

clean_append : (a b : List ℕ) → ZeroOrMore clean a → ZeroOrMore clean b → ZeroOrMore clean (a ++ b)
clean_append [] b h k = k
clean_append (x ∷ a) b h k = (h.0, clean_append a b h.1 k)

clean_value : (q : Quote) (v r : List ℕ) → ZeroOrMore is_char v → ZeroOrMore clean r → ZeroOrMore clean (value_then q v r)
clean_value q [] r h k = k
clean_value q (c ∷ v) r h k = clean_append (escape_value q c) _ (clean_value_char q c h.0) (clean_value q v r h.1 k)

clean_quote : (q : Quote) → T (clean (quote_mark q))
clean_quote Double = tt
clean_quote Single = tt

clean_attributes : (ps : List Attribute) (r : List ℕ) → LegalAttributes ps → ZeroOrMore clean r → ZeroOrMore clean (attributes_then ps r)
clean_attributes [] r h k = k
clean_attributes (p ∷ ps) r h k =
    let m = clean_quote p.quote in
    (tt, clean_append p.name _ (clean_name p.name h.0) (tt, (m, clean_value p.quote p.value _ h.1 (m, clean_attributes ps r h.2 k))))

clean_tag_end : (b : Bool) (x y : List ℕ) → ZeroOrMore clean x → ZeroOrMore clean y → ZeroOrMore clean (tag_end b x y)
clean_tag_end true x y h k = (tt, (tt, h))
clean_tag_end false x y h k = (tt, k)

pub clean_render : (m : Written) (r : List ℕ) → WellFormed m → ZeroOrMore clean r → ZeroOrMore clean (render m r)
clean_render empty r w h = h
clean_render (character c m) r w h = clean_append (escape_text c) _ (clean_text c w.0) (clean_render m r w.1 h)
clean_render (element n ps k m) r w h =
    let u = clean_render m r w.4 h in
    let z = clean_name n w.0 in
    (tt, clean_append n _ z (clean_attributes ps _ w.1 (clean_tag_end (is_empty k) _ _ u (clean_render k _ w.3 (tt, (tt, clean_append n _ z (tt, u)))))))

-- What is clean stays as it is, and is Unicode

no_return : (c : ℕ) → T (clean c) → eqb c 13 ≡ false
no_return c h = test (λ v. T (clean v) → eqb v 13 ≡ false) c 13 (λ z. elim z [ ]) (λ e _. e) h

clean_line_ends : (cs : List ℕ) → ZeroOrMore clean cs → normal_line_ends false cs ≡ cs
clean_line_ends [] h = refl
clean_line_ends (c ∷ cs) h = rw (no_return c h.0) (ap (λ x. c ∷ x) (clean_line_ends cs h.1))

clean_scalar : (c : ℕ) → T (clean c) → scalar c ≡ true
clean_scalar c h = grind (arith, nat_tests)

clean_scalars : (cs : List ℕ) → ZeroOrMore clean cs → scalars cs ≡ true
clean_scalars [] h = refl
clean_scalars (c ∷ cs) h = rw (clean_scalar c h.0) (clean_scalars cs h.1)

pub reads_back : ReadsBack
reads_back m w =
    let a = made m w in
    let k = clean_render m [] w tt in
    let reading : Reading (written m) (plain m) = record { text = render m []; unicode = clean_scalars _ k; utf8 = refl; content = a.content; spells = a.same [] ∙ sym (clean_line_ends _ k); stands = a.stands; means = a.means } in
    record { reads = reading; only = λ other g. one_meaning (written m) other (plain m) g reading }

pub render_scalars : (m : Written) → WellFormed m → scalars (render m []) ≡ true
render_scalars m w = clean_scalars _ (clean_render m [] w tt)
