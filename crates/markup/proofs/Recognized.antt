-- The machine lives through all well-formed content; so a text on which it dies has no reading.
use Rattle.std.proofs.Common.{◌≡◌, ℕ, true, false, not, T, List, [], ◌∷◌, ◌++◌, sym, refl, ap, ◌∙◌, subst}
use mathlib.Core.Bool.{false≢true}
use lib.Utf8.{encodes, scalars}
use Rattle.std.specs.Str.{bytes_eq, chars}
use Rattle.std.proofs.lemmas.List.{append-nil, append_assoc}
use Rattle.std.proofs.lemmas.Str.{chars-encodes}
use Rattle.markup.specs.declared.quotes.Quote.{Quote}
use Rattle.markup.specs.declared.quotes.Quote.TheVariants.{Double, Single}
use Rattle.markup.specs.Escapes.{quote_mark}
use Rattle.markup.specs.Characters.{is_space, is_name_start, is_name_char, is_data_but, ZeroOrMore, OneOrMore, Name}
use Rattle.markup.specs.AttributeSpecifications.{ValuePiece, literal, referring, pieces_then, PiecesStand, Specification, specifications_then, SpecificationsStand, specified_names}
use Rattle.markup.specs.Content.{Tag, TagStands, ETag, end_tag_then, ETagStands, Content, char_data, reference, cdata_section, instruction, comment, empty_tag, tagged, yield, ContentStands}
use Rattle.markup.specs.Trees.{Read}
use Rattle.markup.specs.Readings.{normal_line_ends, Reading}
use Rattle.markup.specs.Checks.{are_distinct}
use Rattle.markup.proofs.Classes.{T_of, true_of, and_T}
use Rattle.markup.proofs.Spans.{Stops, each_space, space_stops, name_all}
use Rattle.markup.proofs.SameTags.{specifications_stop}
use Rattle.markup.proofs.Checks.{same_refl, distinct_tests}
use Rattle.markup.proofs.Recognizer.{Brackets, none, one, two, text, less, tag_name, in_tag, attribute_name, before_equals, after_equals, in_value, after_value, end_name, after_end_name, ampersand, step, run, plausible}
use Rattle.markup.proofs.RecognizedTexts.{Names, cond_true, cond_false, moves, stays, gathers, text_runs, data_then_less, data_then_ampersand, after_ampersand, reference_split, reference_runs, section_runs, comment_runs, pi_runs}

-- Start tags and empty-element tags

pieces_run : (ns : Names) (q : Quote) (n : List ℕ) (given : Names) (ps : List ValuePiece) (rest : List ℕ) → PiecesStand (quote_mark q) ps → run ns (in_value (quote_mark q) n given) (pieces_then ps (quote_mark q ∷ rest)) ≡ run ns (after_value n given) rest
pieces_run ns Double n given [] rest h = refl
pieces_run ns Single n given [] rest h = refl
pieces_run ns q n given (literal c ∷ ps) rest h =
    moves ns (in_value (quote_mark q) n given) c (pieces_then ps (quote_mark q ∷ rest)) (cond_true (is_data_but (quote_mark q) c) _ _ h.0) ∙ pieces_run ns q n given ps rest h.1
pieces_run ns q n given (referring r ∷ ps) rest h =
    ap (run ns (in_value (quote_mark q) n given)) (reference_split r (pieces_then ps (quote_mark q ∷ rest)))
    ∙ moves ns (in_value (quote_mark q) n given) 38 (after_ampersand r (pieces_then ps (quote_mark q ∷ rest))) (go q)
    ∙ reference_runs ns (in_value (quote_mark q) n given) r (pieces_then ps (quote_mark q ∷ rest)) h.0
    ∙ pieces_run ns q n given ps rest h.1
  where
    go : (q : Quote) → step ns (in_value (quote_mark q) n given) 38 ≡ (ns, ampersand (in_value (quote_mark q) n given))
    go Double = refl
    go Single = refl

-- a name ends where its characters stop
attribute_name_ends : (ns : Names) (n : List ℕ) (given : Names) (a xs : List ℕ) → Stops is_name_char xs → run ns (attribute_name n given a) xs ≡ run ns (before_equals n given a) xs
attribute_name_ends ns n given a [] h = refl
attribute_name_ends ns n given a (c ∷ xs) h = moves ns (attribute_name n given a) c xs (cond_false (is_name_char c) _ _ h)

tag_name_ends : (ns : Names) (n xs : List ℕ) → Stops is_name_char xs → run ns (tag_name n) xs ≡ run ns (after_value n []) xs
tag_name_ends ns n [] h = refl
tag_name_ends ns n (c ∷ xs) h = moves ns (tag_name n) c xs (cond_false (is_name_char c) _ _ h)

end_name_ends : (ns : Names) (n xs : List ℕ) → Stops is_name_char xs → run ns (end_name n) xs ≡ run ns (after_end_name n) xs
end_name_ends ns n [] h = refl
end_name_ends ns n (c ∷ xs) h = moves ns (end_name n) c xs (cond_false (is_name_char c) _ _ h)

in_tag_stays : (ns : Names) (n : List ℕ) (given : Names) (s rest : List ℕ) → ZeroOrMore is_space s → run ns (in_tag n given) (s ++ rest) ≡ run ns (in_tag n given) rest
in_tag_stays ns n given s rest h = stays is_space ns (in_tag n given) (λ c k. each_space (λ v. step ns (in_tag n given) v ≡ (ns, in_tag n given)) refl refl refl refl c k) s rest h

space_enters : (ns : Names) (n : List ℕ) (given : Names) (s rest : List ℕ) → OneOrMore is_space s → run ns (after_value n given) (s ++ rest) ≡ run ns (in_tag n given) rest
space_enters ns n given [] rest h = elim h [ ]
space_enters ns n given (x ∷ s) rest h =
    moves ns (after_value n given) x (s ++ rest) (each_space (λ v. step ns (after_value n given) v ≡ (ns, in_tag n given)) refl refl refl refl x h.0) ∙ in_tag_stays ns n given s rest h.1

attribute_name_runs : (ns : Names) (n : List ℕ) (given : Names) (a rest : List ℕ) → Name a → run ns (in_tag n given) (a ++ rest) ≡ run ns (attribute_name n given a) rest
attribute_name_runs ns n given [] rest h = elim h [ ]
attribute_name_runs ns n given (c ∷ a) rest h =
    moves ns (in_tag n given) c (a ++ rest) (cond_true (is_name_start c) _ _ h.0)
    ∙ gathers ns (attribute_name n given) (λ name c k. cond_true (is_name_char c) _ _ k) (c ∷ []) a rest h.1

quote_enters : (ns : Names) (n : List ℕ) (given : Names) (q : Quote) (rest : List ℕ) → run ns (after_equals n given) (quote_mark q ∷ rest) ≡ run ns (in_value (quote_mark q) n given) rest
quote_enters ns n given Double rest = refl
quote_enters ns n given Single rest = refl

specifications_run : (ns : Names) (n : List ℕ) (given : Names) (ss : List Specification) (rest : List ℕ) → SpecificationsStand ss → run ns (after_value n given) (specifications_then ss rest) ≡ run ns (after_value n (given ++ specified_names ss)) rest
specifications_run ns n given [] rest h = ap (λ z. run ns (after_value n z) rest) (sym (append-nil given))
specifications_run ns n given (s ∷ more) rest h =
    let a = s.name in
    let now_given = given ++ a ∷ [] in
    let behind = specifications_then more rest in
    let quoted = quote_mark s.quote ∷ pieces_then s.value (quote_mark s.quote ∷ behind) in
    space_enters ns n given s.space _ h.0
    ∙ attribute_name_runs ns n given a _ h.1
    ∙ attribute_name_ends ns n given a (s.space_before_equals ++ (61 ∷ (s.space_after_equals ++ quoted))) (space_stops s.space_before_equals _ 61 h.2 tt)
    ∙ stays is_space ns (before_equals n given a) (λ c k. each_space (λ v. step ns (before_equals n given a) v ≡ (ns, before_equals n given a)) refl refl refl refl c k) s.space_before_equals (61 ∷ (s.space_after_equals ++ quoted)) h.2
    ∙ stays is_space ns (after_equals n now_given) (λ c k. each_space (λ v. step ns (after_equals n now_given) v ≡ (ns, after_equals n now_given)) refl refl refl refl c k) s.space_after_equals quoted h.3
    ∙ quote_enters ns n now_given s.quote (pieces_then s.value (quote_mark s.quote ∷ behind))
    ∙ pieces_run ns s.quote n now_given s.value behind h.4
    ∙ specifications_run ns n now_given more rest h.5
    ∙ ap (λ z. run ns (after_value n z) rest) (append_assoc given (a ∷ []) (specified_names more))

-- white space may stand before the end of a tag, and changes nothing
tag_space_runs : (ns : Names) (n : List ℕ) (given : Names) (s : List ℕ) (c : ℕ) (rest : List ℕ) → ZeroOrMore is_space s → T (not (is_name_start c)) → run ns (after_value n given) (s ++ (c ∷ rest)) ≡ run ns (after_value n given) (c ∷ rest)
tag_space_runs ns n given [] c rest h k = refl
tag_space_runs ns n given (x ∷ s) c rest h k =
    space_enters ns n given (x ∷ s) (c ∷ rest) h ∙ moves ns (in_tag n given) c rest (cond_false (is_name_start c) _ _ k)

tag_runs : (ns : Names) (t : Tag) (c : ℕ) (rest : List ℕ) → TagStands t → T (not (is_name_start c)) → T (not (is_name_char c)) → run ns less (t.name ++ specifications_then t.attributes (t.space ++ (c ∷ rest))) ≡ run ns (after_value t.name (specified_names t.attributes)) (c ∷ rest)
tag_runs ns t c rest h k l =
    named t.name _ h.0
    ∙ tag_name_ends ns t.name (specifications_then t.attributes (t.space ++ (c ∷ rest))) (specifications_stop t.attributes t.space rest c h.1 h.3 l)
    ∙ specifications_run ns t.name [] t.attributes (t.space ++ (c ∷ rest)) h.1
    ∙ tag_space_runs ns t.name (specified_names t.attributes) t.space c rest h.3 k
  where
    named : (n xs : List ℕ) → Name n → run ns less (n ++ xs) ≡ run ns (tag_name n) xs
    named [] xs h = elim h [ ]
    named (c ∷ n) xs h =
        moves ns less c (n ++ xs) (cond_true (is_name_start c) _ _ h.0) ∙ gathers ns tag_name (λ name c k. cond_true (is_name_char c) _ _ k) (c ∷ []) n xs h.1

empty_tag_runs : (ns : Names) (t : Tag) (rest : List ℕ) → TagStands t → run ns less (t.name ++ specifications_then t.attributes (t.space ++ (47 ∷ 62 ∷ rest))) ≡ run ns (text none) rest
empty_tag_runs ns t rest h =
    tag_runs ns t 47 (62 ∷ rest) h tt tt
    ∙ moves ns (after_value t.name (specified_names t.attributes)) 47 (62 ∷ rest) (cond_true (are_distinct (specified_names t.attributes)) _ _ ((distinct_tests (specified_names t.attributes)).1 h.2))

start_tag_runs : (ns : Names) (t : Tag) (rest : List ℕ) → TagStands t → run ns less (t.name ++ specifications_then t.attributes (t.space ++ (62 ∷ rest))) ≡ run (t.name ∷ ns) (text none) rest
start_tag_runs ns t rest h =
    tag_runs ns t 62 rest h tt tt
    ∙ moves ns (after_value t.name (specified_names t.attributes)) 62 rest (cond_true (are_distinct (specified_names t.attributes)) _ _ ((distinct_tests (specified_names t.attributes)).1 h.2))

end_tag_runs : (ns : Names) (n : List ℕ) (z : ETag) (rest : List ℕ) → Name n → ETagStands n z → run (n ∷ ns) less (47 ∷ (z.name ++ (z.space ++ (62 ∷ rest)))) ≡ run ns (text none) rest
end_tag_runs ns n z rest hn h =
    let name_chars : ZeroOrMore is_name_char z.name = subst (ZeroOrMore is_name_char) (sym h.0) (name_all n hn) in
    gathers (n ∷ ns) end_name (λ name c k. cond_true (is_name_char c) _ _ k) [] z.name (z.space ++ (62 ∷ rest)) name_chars
    ∙ end_name_ends (n ∷ ns) z.name (z.space ++ (62 ∷ rest)) (space_stops z.space rest 62 h.1 tt)
    ∙ stays is_space (n ∷ ns) (after_end_name z.name) (λ c k. each_space (λ v. step (n ∷ ns) (after_end_name z.name) v ≡ (n ∷ ns, after_end_name z.name)) refl refl refl refl c k) z.space (62 ∷ rest) h.1
    ∙ moves (n ∷ ns) (after_end_name z.name) 62 rest (cond_true (bytes_eq z.name n) _ _ (subst (λ v. T (bytes_eq z.name v)) h.0 (same_refl z.name)))

-- Content

abbrev Runs : Content → Type 0
Runs t = (ns : Names) (rest : List ℕ) → ContentStands t → (b : Brackets) × (run ns (text none) (yield t rest) ≡ run ns (text b) rest)

runs : (t : Content) → Runs t
runs (char_data d) ns rest h = text_runs ns d rest none h.0 h.1
runs (reference d r more) ns rest h =
    let i = runs more ns rest h.2 in (
      i.0,
      ap (λ z. run ns (text none) (d ++ z)) (reference_split r (yield more rest))
          ∙ data_then_ampersand ns d (after_ampersand r (yield more rest)) h.0
          ∙ reference_runs ns (text none) r (yield more rest) h.1
          ∙ i.1,
    )
runs (cdata_section d x more) ns rest h =
    let i = runs more ns rest h.2 in (
      i.0,
      data_then_less ns d (33 ∷ 91 ∷ 67 ∷ 68 ∷ 65 ∷ 84 ∷ 65 ∷ 91 ∷ (x ++ (93 ∷ 93 ∷ 62 ∷ yield more rest))) h.0
          ∙ section_runs ns x (yield more rest) none h.1.0 h.1.1
          ∙ i.1,
    )
runs (instruction d p more) ns rest h =
    let i = runs more ns rest h.3 in (
      i.0,
      data_then_less ns d (63 ∷ (p.target ++ (p.space ++ (p.text ++ (63 ∷ 62 ∷ yield more rest))))) h.0
          ∙ pi_runs ns p (yield more rest) h.1 h.2
          ∙ i.1,
    )
runs (comment d x more) ns rest h =
    let i = runs more ns rest h.2 in (
      i.0,
      data_then_less ns d (33 ∷ 45 ∷ 45 ∷ (x ++ (45 ∷ 45 ∷ 62 ∷ yield more rest))) h.0
          ∙ comment_runs ns x (yield more rest) false h.1.0 h.1.1
          ∙ i.1,
    )
runs (empty_tag d t more) ns rest h =
    let i = runs more ns rest h.2 in (
      i.0,
      data_then_less ns d (t.name ++ specifications_then t.attributes (t.space ++ (47 ∷ 62 ∷ yield more rest))) h.0
          ∙ empty_tag_runs ns t (yield more rest) h.1
          ∙ i.1,
    )
runs (tagged d t children z more) ns rest h =
    let end = end_tag_then z (yield more rest) in
    let k = runs children (t.name ∷ ns) end h.2 in
    let i = runs more ns rest h.4 in (
      i.0,
      data_then_less ns d (t.name ++ specifications_then t.attributes (t.space ++ (62 ∷ yield children end))) h.0
          ∙ start_tag_runs ns t (yield children end) h.1
          ∙ k.1
          ∙ from k.0 (t.name ∷ ns) (47 ∷ (z.name ++ (z.space ++ (62 ∷ yield more rest))))
          ∙ end_tag_runs ns t.name z (yield more rest) h.1.0 h.3
          ∙ i.1,
    )
  where
    from : (b : Brackets) (ns : Names) (xs : List ℕ) → run ns (text b) (60 ∷ xs) ≡ run ns less xs
    from none ns xs = refl
    from one ns xs = refl
    from two ns xs = refl

-- Bytes

pub plausible_reading : (bytes : List ℕ) (m : Read) → Reading bytes m → plausible bytes ≡ true
plausible_reading bytes m g =
    let d : chars bytes ≡ g.text = ap chars (sym g.utf8) ∙ chars-encodes g.text g.unicode in
    let same : T (bytes_eq (encodes (chars bytes)) bytes) = subst (λ z. T (bytes_eq z bytes)) (sym g.utf8 ∙ ap encodes (sym d)) (same_refl bytes) in
    let i = runs g.content [] [] g.stands in
    let lives : run [] (text none) (normal_line_ends false (chars bytes)) ≡ true =
    ap (λ z. run [] (text none) (normal_line_ends false z)) d ∙ ap (run [] (text none)) (sym g.spells) ∙ i.1 ∙ final i.0
    in
    true_of (plausible bytes) (and_T (scalars (chars bytes)) _ (T_of (ap scalars d ∙ g.unicode)) (and_T (bytes_eq (encodes (chars bytes)) bytes) _ same (T_of lives)))
  where
    final : (b : Brackets) → run [] (text b) [] ≡ true
    final none = refl
    final one = refl
    final two = refl

pub no_reading : (bytes : List ℕ) → plausible bytes ≡ false → (m : Read) → Reading bytes m → ⊥
no_reading bytes h m g = false≢true (sym h ∙ plausible_reading bytes m g)
