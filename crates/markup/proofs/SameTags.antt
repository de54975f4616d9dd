-- Two tags that are spelled alike have the same name and the same attributes.
use Rattle.std.proofs.Common.{◌≡◌, ℕ, cond, not, T, eqb, List, [], ◌∷◌, ◌++◌, sym, refl, ap, ◌∙◌, ap₂}
use Rattle.markup.specs.declared.quotes.Quote.{Quote}
use Rattle.markup.specs.declared.quotes.Quote.TheVariants.{Double, Single}
use Rattle.markup.specs.Escapes.{quote_mark}
use Rattle.markup.specs.Characters.{ZeroOrMore, OneOrMore, Name, is_space, is_data_but, is_name_start, is_name_char}
use Rattle.markup.specs.AttributeSpecifications.{ValuePiece, literal, referring, pieces_then, PiecesStand, normalized, Specification, specifications_then, SpecificationsStand, specified}
use Rattle.markup.specs.Content.{Tag, tag_then, TagStands}
use Rattle.std.proofs.Math.Dec.{not_T}
use Rattle.markup.proofs.Classes.{not_in}
use Rattle.markup.proofs.Spans.{head_same, tail_same, clash, Stops, span, some_is_many, reference_same, reference_head, name_all, each_space, space_stops, name_head}

-- a quote is neither & nor in the value it stands around
quote_not_data : (q : Quote) → T (not (is_data_but (quote_mark q) (quote_mark q)))
quote_not_data Double = tt
quote_not_data Single = tt

quote_not_ampersand : (q : Quote) → T (not (eqb (quote_mark q) 38))
quote_not_ampersand Double = tt
quote_not_ampersand Single = tt

ampersand_not_data : (q : Quote) → T (not (is_data_but (quote_mark q) 38))
ampersand_not_data Double = tt
ampersand_not_data Single = tt

quote_not_space : (q : Quote) → T (not (is_space (quote_mark q)))
quote_not_space Double = tt
quote_not_space Single = tt

-- values, up to the quote
pieces_same :
    (q : Quote) (ps qs : List ValuePiece) (r s : List ℕ) → PiecesStand (quote_mark q) ps → PiecesStand (quote_mark q) qs
    → pieces_then ps (quote_mark q ∷ r) ≡ pieces_then qs (quote_mark q ∷ s) → (normalized ps ≡ normalized qs) × (r ≡ s)
pieces_same q [] [] r s w v e = (refl, tail_same e)
pieces_same q [] (literal c ∷ qs) r s w v e = absurd (not_in (is_data_but (quote_mark q)) v.0 (quote_not_data q) (sym (head_same e)))
pieces_same q [] (referring f ∷ qs) r s w v e = absurd (clash (e ∙ (reference_head f (pieces_then qs (quote_mark q ∷ s))).1) (quote_not_ampersand q))
pieces_same q (literal c ∷ ps) [] r s w v e = absurd (not_in (is_data_but (quote_mark q)) w.0 (quote_not_data q) (head_same e))
pieces_same q (referring f ∷ ps) [] r s w v e = absurd (clash (sym e ∙ (reference_head f (pieces_then ps (quote_mark q ∷ r))).1) (quote_not_ampersand q))
pieces_same q (literal c ∷ ps) (literal d ∷ qs) r s w v e =
    let i = pieces_same q ps qs r s w.1 v.1 (tail_same e) in
    (ap₂ ◌∷◌ (ap (λ x. cond (is_space x) 0x20 x) (head_same e)) i.0, i.1)
pieces_same q (literal c ∷ ps) (referring f ∷ qs) r s w v e =
    absurd (not_in (is_data_but (quote_mark q)) w.0 (ampersand_not_data q) (head_same (e ∙ (reference_head f (pieces_then qs (quote_mark q ∷ s))).1)))
pieces_same q (referring f ∷ ps) (literal d ∷ qs) r s w v e =
    absurd (not_in (is_data_but (quote_mark q)) v.0 (ampersand_not_data q) (head_same (sym e ∙ (reference_head f (pieces_then ps (quote_mark q ∷ r))).1)))
pieces_same q (referring f ∷ ps) (referring g ∷ qs) r s w v e =
    let t = reference_same f g _ _ w.0 v.0 e in
    let i = pieces_same q ps qs r s w.1 v.1 t.1 in
    (ap₂ ◌∷◌ t.0 i.0, i.1)

-- a value with its quotes: they are the same quotes
quoted_same :
    (p q : Quote) (ps qs : List ValuePiece) (r s : List ℕ) → PiecesStand (quote_mark p) ps → PiecesStand (quote_mark q) qs
    → quote_mark p ∷ pieces_then ps (quote_mark p ∷ r) ≡ quote_mark q ∷ pieces_then qs (quote_mark q ∷ s) → (normalized ps ≡ normalized qs) × (r ≡ s)
quoted_same Double Double ps qs r s w v e = pieces_same Double ps qs r s w v (tail_same e)
quoted_same Single Single ps qs r s w v e = pieces_same Single ps qs r s w v (tail_same e)
quoted_same Double Single ps qs r s w v e = absurd (clash e tt)
quoted_same Single Double ps qs r s w v e = absurd (clash e tt)

-- white space ends where a name begins
start_not_space : (c : ℕ) → T (is_name_start c) → T (not (is_space c))
start_not_space c h = not_T (is_space c) (λ k. each_space (λ v. T (is_name_start v) → ⊥) (λ z. z) (λ z. z) (λ z. z) (λ z. z) c k h)

name_stops_space : (n q : List ℕ) → Name n → Stops is_space (n ++ q)
name_stops_space [] q h = elim h [ ]
name_stops_space (c ∷ n) q h = start_not_space c h.0

-- one attribute
abbrev Stands : Specification → Type 0
Stands a = OneOrMore is_space a.space × Name a.name × ZeroOrMore is_space a.space_before_equals × ZeroOrMore is_space a.space_after_equals × PiecesStand (quote_mark a.quote) a.value

one_same :
    (a b : Specification) (r s : List ℕ) → Stands a → Stands b → specifications_then (a ∷ []) r ≡ specifications_then (b ∷ []) s
    → (a.name ≡ b.name) × (normalized a.value ≡ normalized b.value) × (r ≡ s)
one_same a b r s h k e =
    let x = span is_space a.space b.space _ _ (some_is_many is_space a.space h.0) (some_is_many is_space b.space k.0) (name_stops_space a.name _ h.1) (name_stops_space b.name _ k.1) e in
    let n = span is_name_char a.name b.name _ _ (name_all a.name h.1) (name_all b.name k.1) (space_stops a.space_before_equals _ 61 h.2 tt) (space_stops b.space_before_equals _ 61 k.2 tt) x.1 in
    let y = span is_space a.space_before_equals b.space_before_equals _ _ h.2 k.2 tt tt n.1 in
    let z = span is_space a.space_after_equals b.space_after_equals _ _ h.3 k.3 (quote_not_space a.quote) (quote_not_space b.quote) (tail_same y.1) in
    let v = quoted_same a.quote b.quote a.value b.value r s h.4 k.4 z.1 in
    (n.0, v.0, v.1)

-- attributes, up to `>` or `/`
attributes_same :
    (ps qs : List Specification) (s t : List ℕ) (c d : ℕ) (r q : List ℕ) → SpecificationsStand ps → SpecificationsStand qs → ZeroOrMore is_space s → ZeroOrMore is_space t
    → T (not (is_space c)) → T (not (is_space d)) → T (not (is_name_start c)) → T (not (is_name_start d))
    → specifications_then ps (s ++ (c ∷ r)) ≡ specifications_then qs (t ++ (d ∷ q)) → (specified ps ≡ specified qs) × (c ∷ r ≡ d ∷ q)
attributes_same [] [] s t c d r q w v hs ht hc hd nc nd e = (refl, (span is_space s t (c ∷ r) (d ∷ q) hs ht hc hd e).1)
attributes_same [] (b ∷ qs) s t c d r q w v hs ht hc hd nc nd e =
    absurd (name_head c r b.name _ nc v.1 (span is_space s b.space (c ∷ r) _ hs (some_is_many is_space b.space v.0) hc (name_stops_space b.name _ v.1) e).1)
attributes_same (a ∷ ps) [] s t c d r q w v hs ht hc hd nc nd e =
    absurd (name_head d q a.name _ nd w.1 (span is_space t a.space (d ∷ q) _ ht (some_is_many is_space a.space w.0) hd (name_stops_space a.name _ w.1) (sym e)).1)
attributes_same (a ∷ ps) (b ∷ qs) s t c d r q w v hs ht hc hd nc nd e =
    let i = one_same a b _ _ (w.0, w.1, w.2, w.3, w.4) (v.0, v.1, v.2, v.3, v.4) e in
    let j = attributes_same ps qs s t c d r q w.5 v.5 hs ht hc hd nc nd i.2 in
    (λ k. (i.0 k, i.1 k) ∷ j.0 k, j.1)

-- a name ends where they begin
pub specifications_stop : (ps : List Specification) (s r : List ℕ) (c : ℕ) → SpecificationsStand ps → ZeroOrMore is_space s → T (not (is_name_char c)) → Stops is_name_char (specifications_then ps (s ++ (c ∷ r)))
specifications_stop [] s r c w h g = space_stops s r c h g
specifications_stop (a ∷ more) s r c w h g = go a.space _ w.0
  where
    go : (k q : List ℕ) → OneOrMore is_space k → Stops is_name_char (k ++ q)
    go [] q h = elim h [ ]
    go (z ∷ k) q h = each_space (λ v. T (not (is_name_char v))) tt tt tt tt z h.0

-- `>` and `/`
abbrev pub EndsTag : ℕ → Type 0
EndsTag c = T (not (is_space c)) × T (not (is_name_start c)) × T (not (is_name_char c))

pub tag_same :
    (t u : Tag) (c d : ℕ) (r q : List ℕ) → TagStands t → TagStands u → EndsTag c → EndsTag d
    → tag_then t (c ∷ r) ≡ tag_then u (d ∷ q) → (t.name ≡ u.name) × (specified t.attributes ≡ specified u.attributes) × (c ∷ r ≡ d ∷ q)
tag_same t u c d r q w v hc hd e =
    let n = span is_name_char t.name u.name _ _ (name_all t.name w.0) (name_all u.name v.0) (specifications_stop t.attributes t.space r c w.1 w.3 hc.2) (specifications_stop u.attributes u.space q d v.1 v.3 hd.2) (tail_same e) in
    let a = attributes_same t.attributes u.attributes t.space u.space c d r q w.1 v.1 w.3 v.3 hc.0 hd.0 hc.1 hd.1 n.1 in
    (n.0, a.0, a.1)
