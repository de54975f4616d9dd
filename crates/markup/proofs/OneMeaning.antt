-- No text means two things: two contents that are spelled alike have one meaning. By induction on the first: the character
-- data in front is the same in both, what follows shows which case both are in, and each part ends at the same place.
use Rattle.std.proofs.Common.{◌≡◌, ℕ, Bool, true, false, cond, not, T, eqb, ◌⊎◌, List, [], ◌∷◌, ◌++◌, sym, refl, ap, ◌∙◌, subst, ap₂, inl, inr, arith, eqb→eq}
use Rattle.std.proofs.lemmas.Str.{chars-encodes}
use Rattle.std.specs.Str.{chars}
use Rattle.markup.specs.Characters.{ZeroOrMore, Name, is_space, is_data, is_name_start, is_name_char}
use Rattle.markup.specs.Trees.{empty, character, element, Read, characters}
use Rattle.markup.specs.CharacterReferences.{Reference, reference_then, referred}
use Rattle.markup.specs.AttributeSpecifications.{specified}
use Rattle.markup.specs.Content.{PI, PIText, Tag, tag_then, ETag, end_tag_then, Content, char_data, reference, cdata_section, instruction, comment, empty_tag, tagged, yield, ContentStands, meaning}
use Rattle.markup.specs.Readings.{normal_line_ends, OneMeaning}
use Rattle.markup.proofs.Classes.{T_of, not_in}
use Rattle.markup.proofs.Spans.{tail_same, clash, Stops, span, reference_same, reference_head, name_all, space_stops, each_space}
use Rattle.markup.proofs.SameTexts.{section_same, comment_same, instruction_ends}
use Rattle.markup.proofs.SameTags.{tag_same}
use Rattle.markup.proofs.Exists.{front}

-- where content ends: nothing follows, or an end tag
abbrev ContentEnds : List ℕ → Type 0
ContentEnds r = (r ≡ []) ⊎ ((q : List ℕ) × (r ≡ 60 ∷ 47 ∷ q))

-- Content is character data in front, and what is behind

abbrev behind : Content → List ℕ → List ℕ
behind (char_data d) rest = rest
behind (reference d r more) rest = reference_then r (yield more rest)
behind (cdata_section d text more) rest = 60 ∷ 33 ∷ 91 ∷ 67 ∷ 68 ∷ 65 ∷ 84 ∷ 65 ∷ 91 ∷ (text ++ (93 ∷ 93 ∷ 62 ∷ yield more rest))
behind (instruction d p more) rest = 60 ∷ 63 ∷ (p.target ++ (p.space ++ (p.text ++ (63 ∷ 62 ∷ yield more rest))))
behind (comment d text more) rest = 60 ∷ 33 ∷ 45 ∷ 45 ∷ (text ++ (45 ∷ 45 ∷ 62 ∷ yield more rest))
behind (empty_tag d t more) rest = tag_then t (47 ∷ 62 ∷ yield more rest)
behind (tagged d t children end more) rest = tag_then t (62 ∷ yield children (end_tag_then end (yield more rest)))

abbrev meant_behind : Content → Read
meant_behind (char_data d) = empty
meant_behind (reference d r more) = character (referred r) (meaning more)
meant_behind (cdata_section d text more) = characters text (meaning more)
meant_behind (instruction d p more) = meaning more
meant_behind (comment d text more) = meaning more
meant_behind (empty_tag d t more) = element t.name (specified t.attributes) empty (meaning more)
meant_behind (tagged d t children end more) = element t.name (specified t.attributes) (meaning children) (meaning more)

yield_split : (t : Content) (rest : List ℕ) → yield t rest ≡ front t ++ behind t rest
yield_split (char_data d) rest = refl
yield_split (reference d r more) rest = refl
yield_split (cdata_section d text more) rest = refl
yield_split (instruction d p more) rest = refl
yield_split (comment d text more) rest = refl
yield_split (empty_tag d t more) rest = refl
yield_split (tagged d t children end more) rest = refl

meaning_split : (t : Content) → meaning t ≡ characters (front t) (meant_behind t)
meaning_split (char_data d) = refl
meaning_split (reference d r more) = refl
meaning_split (cdata_section d text more) = refl
meaning_split (instruction d p more) = refl
meaning_split (comment d text more) = refl
meaning_split (empty_tag d t more) = refl
meaning_split (tagged d t children end more) = refl

front_data : (t : Content) → ContentStands t → ZeroOrMore is_data (front t)
front_data (char_data d) h = h.0
front_data (reference d r more) h = h.0.0
front_data (cdata_section d text more) h = h.0.0
front_data (instruction d p more) h = h.0.0
front_data (comment d text more) h = h.0.0
front_data (empty_tag d t more) h = h.0.0
front_data (tagged d t children end more) h = h.0.0

end_stops : (r : List ℕ) → ContentEnds r → Stops is_data r
end_stops r (inl e) = subst (Stops is_data) (sym e) tt
end_stops r (inr q) = subst (Stops is_data) (sym q.1) tt

behind_stops : (t : Content) (rest : List ℕ) → ContentEnds rest → Stops is_data (behind t rest)
behind_stops (char_data d) rest a = end_stops rest a
behind_stops (reference d r more) rest a = subst (Stops is_data) (sym (reference_head r (yield more rest)).1) tt
behind_stops (cdata_section d text more) rest a = tt
behind_stops (instruction d p more) rest a = tt
behind_stops (comment d text more) rest a = tt
behind_stops (empty_tag d t more) rest a = tt
behind_stops (tagged d t children end more) rest a = tt

-- Which case it is, by the first characters behind

abbrev kind : Content → ℕ
kind (char_data d) = 0
kind (reference d r more) = 1
kind (cdata_section d text more) = 2
kind (instruction d p more) = 3
kind (comment d text more) = 4
kind (empty_tag d t more) = 5
kind (tagged d t children end more) = 5

abbrev kind_after_bang : List ℕ → ℕ
kind_after_bang [] = 2
kind_after_bang (c ∷ cs) = cond (eqb c 45) 4 2

abbrev kind_after_less : List ℕ → ℕ
kind_after_less [] = 5
kind_after_less (c ∷ cs) = cond (eqb c 47) 0 (cond (eqb c 63) 3 (cond (eqb c 33) (kind_after_bang cs) 5))

abbrev kind_by_head : List ℕ → ℕ
kind_by_head [] = 0
kind_by_head (c ∷ cs) = cond (eqb c 38) 1 (kind_after_less cs)

not_start : (c k : ℕ) → T (is_name_start c) → T (not (is_name_start k)) → eqb c k ≡ false
not_start c k h g = go (eqb c k) refl
  where
    go : (b : Bool) → eqb c k ≡ b → eqb c k ≡ false
    go true e = absurd (not_in is_name_start h g (eqb→eq c k (T_of e)))
    go false e = e

kind_of_tag : (n xs : List ℕ) → Name n → kind_by_head (60 ∷ (n ++ xs)) ≡ 5
kind_of_tag [] xs h = elim h [ ]
kind_of_tag (c ∷ n) xs h = simp (not_start c 47 h.0 tt, not_start c 63 h.0 tt, not_start c 33 h.0 tt)

kind_of_end : (r : List ℕ) → ContentEnds r → kind_by_head r ≡ 0
kind_of_end r (inl e) = ap kind_by_head e
kind_of_end r (inr q) = ap kind_by_head q.1

kind_of : (t : Content) (rest : List ℕ) → ContentStands t → ContentEnds rest → kind_by_head (behind t rest) ≡ kind t
kind_of (char_data d) rest h a = kind_of_end rest a
kind_of (reference d r more) rest h a = ap kind_by_head (reference_head r (yield more rest)).1
kind_of (cdata_section d text more) rest h a = refl
kind_of (instruction d p more) rest h a = refl
kind_of (comment d text more) rest h a = refl
kind_of (empty_tag d t more) rest h a = kind_of_tag t.name _ h.1.0
kind_of (tagged d t children end more) rest h a = kind_of_tag t.name _ h.1.0

-- One meaning

abbrev One : Content → Type 0
One t = (u : Content) (r s : List ℕ) → ContentStands t → ContentStands u → ContentEnds r → ContentEnds s → yield t r ≡ yield u s → (meaning t ≡ meaning u) × (r ≡ s)

abbrev OneBehind : Content → Type 0
OneBehind t = (u : Content) (r s : List ℕ) → ContentStands t → ContentStands u → ContentEnds r → ContentEnds s → kind t ≡ kind u → behind t r ≡ behind u s → (meant_behind t ≡ meant_behind u) × (r ≡ s)

whole : (t : Content) → OneBehind t → One t
whole t f u r s w v a b e =
    let p = span is_data (front t) (front u) (behind t r) (behind u s) (front_data t w) (front_data u v) (behind_stops t r a) (behind_stops u s b) (sym (yield_split t r) ∙ e ∙ yield_split u s) in
    let k = sym (kind_of t r w a) ∙ ap kind_by_head p.1 ∙ kind_of u s v b in
    let i = f u r s w v a b k p.1 in
    (meaning_split t ∙ ap₂ characters p.0 i.0 ∙ sym (meaning_split u), i.1)

one_data : (d : List ℕ) → OneBehind (char_data d)
one_data d (char_data d') r s w v a b k e = (refl, e)
one_data d (reference d' g more') r s w v a b k e = absurd (omega arith)
one_data d (cdata_section d' y more') r s w v a b k e = absurd (omega arith)
one_data d (instruction d' p' more') r s w v a b k e = absurd (omega arith)
one_data d (comment d' y more') r s w v a b k e = absurd (omega arith)
one_data d (empty_tag d' u more') r s w v a b k e = absurd (omega arith)
one_data d (tagged d' u k' z' more') r s w v a b k e = absurd (omega arith)

one_reference : (d : List ℕ) (f : Reference) (more : Content) → One more → OneBehind (reference d f more)
one_reference d f more ih (reference d' g more') r s w v a b k e =
    let q = reference_same f g _ _ w.1 v.1 e in
    let i = ih more' r s w.2 v.2 a b q.1 in
    (ap₂ character q.0 i.0, i.1)
one_reference d f more ih (char_data d') r s w v a b k e = absurd (omega arith)
one_reference d f more ih (cdata_section d' y more') r s w v a b k e = absurd (omega arith)
one_reference d f more ih (instruction d' p' more') r s w v a b k e = absurd (omega arith)
one_reference d f more ih (comment d' y more') r s w v a b k e = absurd (omega arith)
one_reference d f more ih (empty_tag d' u more') r s w v a b k e = absurd (omega arith)
one_reference d f more ih (tagged d' u k' z' more') r s w v a b k e = absurd (omega arith)

one_section : (d x : List ℕ) (more : Content) → One more → OneBehind (cdata_section d x more)
one_section d x more ih (cdata_section d' y more') r s w v a b k e =
    let t = section_same x y _ _ w.1.1 v.1.1 (drop_start e) in
    let i = ih more' r s w.2 v.2 a b t.1 in
    (ap₂ characters t.0 i.0, i.1)
  where
    drop_start : {xs ys : List ℕ} → 60 ∷ 33 ∷ 91 ∷ 67 ∷ 68 ∷ 65 ∷ 84 ∷ 65 ∷ 91 ∷ xs ≡ 60 ∷ 33 ∷ 91 ∷ 67 ∷ 68 ∷ 65 ∷ 84 ∷ 65 ∷ 91 ∷ ys → xs ≡ ys
    drop_start e = tail_same (tail_same (tail_same (tail_same (tail_same (tail_same (tail_same (tail_same (tail_same e))))))))
one_section d x more ih (char_data d') r s w v a b k e = absurd (omega arith)
one_section d x more ih (reference d' g more') r s w v a b k e = absurd (omega arith)
one_section d x more ih (instruction d' p' more') r s w v a b k e = absurd (omega arith)
one_section d x more ih (comment d' y more') r s w v a b k e = absurd (omega arith)
one_section d x more ih (empty_tag d' u more') r s w v a b k e = absurd (omega arith)
one_section d x more ih (tagged d' u k' z' more') r s w v a b k e = absurd (omega arith)

-- a target ends at white space or at `?>`
target_stops : (space text rest : List ℕ) → PIText space text → Stops is_name_char (space ++ (text ++ (63 ∷ 62 ∷ rest)))
target_stops [] text rest h = subst (λ z. Stops is_name_char (z ++ (63 ∷ 62 ∷ rest))) (sym h) tt
target_stops (x ∷ space) text rest h = each_space (λ v. T (not (is_name_char v))) tt tt tt tt x h.0.0

one_instruction : (d : List ℕ) (p : PI) (more : Content) → One more → OneBehind (instruction d p more)
one_instruction d p more ih (instruction d' p' more') r s w v a b k e =
    let n = span is_name_char p.target p'.target _ _ (name_all p.target w.1.0) (name_all p'.target v.1.0) (target_stops p.space p.text (yield more r) w.2) (target_stops p'.space p'.text (yield more' s) v.2) (tail_same (tail_same e)) in
    let q = instruction_ends p.space p.text p'.space p'.text (yield more r) (yield more' s) w.2 v.2 n.1 in
    ih more' r s w.3 v.3 a b q
one_instruction d p more ih (char_data d') r s w v a b k e = absurd (omega arith)
one_instruction d p more ih (reference d' g more') r s w v a b k e = absurd (omega arith)
one_instruction d p more ih (cdata_section d' y more') r s w v a b k e = absurd (omega arith)
one_instruction d p more ih (comment d' y more') r s w v a b k e = absurd (omega arith)
one_instruction d p more ih (empty_tag d' u more') r s w v a b k e = absurd (omega arith)
one_instruction d p more ih (tagged d' u k' z' more') r s w v a b k e = absurd (omega arith)

one_comment : (d x : List ℕ) (more : Content) → One more → OneBehind (comment d x more)
one_comment d x more ih (comment d' y more') r s w v a b k e =
    let t = comment_same x y _ _ w.1.1 v.1.1 (tail_same (tail_same (tail_same (tail_same e)))) in
    ih more' r s w.2 v.2 a b t.1
one_comment d x more ih (char_data d') r s w v a b k e = absurd (omega arith)
one_comment d x more ih (reference d' g more') r s w v a b k e = absurd (omega arith)
one_comment d x more ih (cdata_section d' y more') r s w v a b k e = absurd (omega arith)
one_comment d x more ih (instruction d' p' more') r s w v a b k e = absurd (omega arith)
one_comment d x more ih (empty_tag d' u more') r s w v a b k e = absurd (omega arith)
one_comment d x more ih (tagged d' u k' z' more') r s w v a b k e = absurd (omega arith)

one_empty_tag : (d : List ℕ) (t : Tag) (more : Content) → One more → OneBehind (empty_tag d t more)
one_empty_tag d t more ih (empty_tag d' u more') r s w v a b k e =
    let q = tag_same t u 47 47 _ _ w.1 v.1 (tt, tt, tt) (tt, tt, tt) e in
    let i = ih more' r s w.2 v.2 a b (tail_same (tail_same q.2)) in
    (λ j. element (q.0 j) (q.1 j) empty (i.0 j), i.1)
one_empty_tag d t more ih (tagged d' u k' z' more') r s w v a b k e =
    absurd (clash (tag_same t u 47 62 _ _ w.1 v.1 (tt, tt, tt) (tt, tt, tt) e).2 tt)
one_empty_tag d t more ih (char_data d') r s w v a b k e = absurd (omega arith)
one_empty_tag d t more ih (reference d' g more') r s w v a b k e = absurd (omega arith)
one_empty_tag d t more ih (cdata_section d' y more') r s w v a b k e = absurd (omega arith)
one_empty_tag d t more ih (instruction d' p' more') r s w v a b k e = absurd (omega arith)
one_empty_tag d t more ih (comment d' y more') r s w v a b k e = absurd (omega arith)

-- two end tags of elements with one name
end_tag_same : (n m : List ℕ) (y z : ETag) (r s : List ℕ) → Name n → Name m → (y.name ≡ n) × ZeroOrMore is_space y.space → (z.name ≡ m) × ZeroOrMore is_space z.space → end_tag_then y r ≡ end_tag_then z s → r ≡ s
end_tag_same n m y z r s hn hm hy hz e =
    let a : ZeroOrMore is_name_char y.name = subst (ZeroOrMore is_name_char) (sym hy.0) (name_all n hn) in
    let b : ZeroOrMore is_name_char z.name = subst (ZeroOrMore is_name_char) (sym hz.0) (name_all m hm) in
    let p = span is_name_char y.name z.name _ _ a b (space_stops y.space r 62 hy.1 tt) (space_stops z.space s 62 hz.1 tt) (tail_same (tail_same e)) in
    let q = span is_space y.space z.space (62 ∷ r) (62 ∷ s) hy.1 hz.1 tt tt p.1 in
    tail_same q.1

one_tagged : (d : List ℕ) (t : Tag) (c : Content) (y : ETag) (more : Content) → One c → One more → OneBehind (tagged d t c y more)
one_tagged d t c y more ihc ih (tagged d' u c' z more') r s w v a b k e =
    let q = tag_same t u 62 62 _ _ w.1 v.1 (tt, tt, tt) (tt, tt, tt) e in
    let j = ihc c' _ _ w.2 v.2 (inr (_, refl)) (inr (_, refl)) (tail_same q.2) in
    let f = end_tag_same t.name u.name y z (yield more r) (yield more' s) w.1.0 v.1.0 w.3 v.3 j.1 in
    let i = ih more' r s w.4 v.4 a b f in
    (λ x. element (q.0 x) (q.1 x) (j.0 x) (i.0 x), i.1)
one_tagged d t c y more ihc ih (empty_tag d' u more') r s w v a b k e =
    absurd (clash (tag_same t u 62 47 _ _ w.1 v.1 (tt, tt, tt) (tt, tt, tt) e).2 tt)
one_tagged d t c y more ihc ih (char_data d') r s w v a b k e = absurd (omega arith)
one_tagged d t c y more ihc ih (reference d' g more') r s w v a b k e = absurd (omega arith)
one_tagged d t c y more ihc ih (cdata_section d' x more') r s w v a b k e = absurd (omega arith)
one_tagged d t c y more ihc ih (instruction d' p' more') r s w v a b k e = absurd (omega arith)
one_tagged d t c y more ihc ih (comment d' x more') r s w v a b k e = absurd (omega arith)

one : (t : Content) → One t
one (char_data d) = whole (char_data d) (one_data d)
one (reference d f more) = whole (reference d f more) (one_reference d f more (one more))
one (cdata_section d x more) = whole (cdata_section d x more) (one_section d x more (one more))
one (instruction d p more) = whole (instruction d p more) (one_instruction d p more (one more))
one (comment d x more) = whole (comment d x more) (one_comment d x more (one more))
one (empty_tag d t more) = whole (empty_tag d t more) (one_empty_tag d t more (one more))
one (tagged d t c y more) = whole (tagged d t c y more) (one_tagged d t c y more (one c) (one more))

pub one_meaning : OneMeaning
one_meaning bytes m n f g =
    let e : f.text ≡ g.text =
    sym (chars-encodes f.text f.unicode) ∙ ap chars (f.utf8 ∙ sym g.utf8) ∙ chars-encodes g.text g.unicode
    in
    let l : yield f.content [] ≡ yield g.content [] = f.spells ∙ ap (normal_line_ends false) e ∙ sym g.spells in
    sym f.means ∙ (one f.content g.content [] [] f.stands g.stands (inl refl) (inl refl) l).0 ∙ g.means
