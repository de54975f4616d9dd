-- A test of content that computes: where it passes, the content is well-formed.
use Rattle.std.proofs.Common.{ℕ, Bool, true, false, not, ◌&&◌, ◌||◌, T, eqb, List, [], ◌∷◌, ◌++◌, map, codes, sym, subst, T_not}
use lib.Dec.{eqb_refl}
use Rattle.std.specs.Str.{bytes_eq}
use Rattle.markup.specs.Escapes.{quote_mark}
use Rattle.markup.specs.Characters.{is_char, is_space, is_digit, is_hex_digit, is_data, is_data_but, ZeroOrMore, OneOrMore, Without}
use Rattle.markup.specs.CharacterReferences.{Reference, entity_ref, decimal_ref, hexadecimal_ref, ReferenceStands, number_from}
use Rattle.markup.specs.AttributeSpecifications.{ValuePiece, literal, referring, PiecesStand, Specification, SpecificationsStand, specified_names}
use Rattle.markup.specs.Content.{small_letter, PITarget, PIText, Tag, TagStands, Content, char_data, reference, cdata_section, instruction, comment, empty_tag, tagged, ContentStands}
use Rattle.markup.specs.Checks.{all_in, is_name, are_distinct}
use Rattle.markup.proofs.Classes.{and_T, both, or_first, or_second}
use Rattle.markup.proofs.Checks.{all_in_tests, name_tests, distinct_tests, same_refl, same_is}

-- One text inside another

abbrev pub starts : List ℕ → List ℕ → Bool
starts [] d = true
starts (x ∷ s) [] = false
starts (x ∷ s) (y ∷ d) = eqb x y && starts s d

abbrev pub contains : List ℕ → List ℕ → Bool
contains s [] = starts s []
contains s (y ∷ d) = starts s (y ∷ d) || contains s d

starts_itself : (s b : List ℕ) → T (starts s (s ++ b))
starts_itself [] b = tt
starts_itself (x ∷ s) b = and_T (eqb x x) _ (eqb_refl x) (starts_itself s b)

contains_start : (s d : List ℕ) → T (starts s d) → T (contains s d)
contains_start s [] h = h
contains_start s (y ∷ d) h = or_first (starts s (y ∷ d)) _ h

contains_it : (s a b : List ℕ) → T (contains s (a ++ (s ++ b)))
contains_it s [] b = contains_start s (s ++ b) (starts_itself s b)
contains_it s (x ∷ a) b = or_second (starts s (x ∷ (a ++ (s ++ b)))) _ (contains_it s a b)

without_from : (s d : List ℕ) → T (not (contains s d)) → Without s d
without_from s d h a b e = T_not (contains s d) h (subst (λ z. T (contains s z)) (sym e) (contains_it s a b))

-- Parts of content

abbrev pub some_in : (ℕ → Bool) → List ℕ → Bool
some_in class [] = false
some_in class (c ∷ cs) = all_in class (c ∷ cs)

some_in_stands : (class : ℕ → Bool) (cs : List ℕ) → T (some_in class cs) → OneOrMore class cs
some_in_stands class [] h = h
some_in_stands class (c ∷ cs) h = (all_in_tests class (c ∷ cs)).0 h

abbrev pub is_text : (ℕ → Bool) → List ℕ → List ℕ → Bool
is_text class without d = all_in class d && not (contains without d)

text_stands : (class : ℕ → Bool) (without d : List ℕ) → T (is_text class without d) → ZeroOrMore class d × Without without d
text_stands class without d h = let s = both (all_in class d) _ h in ((all_in_tests class d).0 s.0, without_from without d s.1)

abbrev pub is_reference : Reference → Bool
is_reference (entity_ref e) = true
is_reference (decimal_ref ds) = some_in is_digit ds && is_char (number_from 10 0 ds)
is_reference (hexadecimal_ref ds) = some_in is_hex_digit ds && is_char (number_from 16 0 ds)

reference_stands : (r : Reference) → T (is_reference r) → ReferenceStands r
reference_stands (entity_ref e) h = h
reference_stands (decimal_ref ds) h = let s = both (some_in is_digit ds) _ h in (some_in_stands is_digit ds s.0, s.1)
reference_stands (hexadecimal_ref ds) h = let s = both (some_in is_hex_digit ds) _ h in (some_in_stands is_hex_digit ds s.0, s.1)

abbrev pub are_pieces : ℕ → List ValuePiece → Bool
are_pieces q [] = true
are_pieces q (literal c ∷ ps) = is_data_but q c && are_pieces q ps
are_pieces q (referring r ∷ ps) = is_reference r && are_pieces q ps

pieces_stand : (q : ℕ) (ps : List ValuePiece) → T (are_pieces q ps) → PiecesStand q ps
pieces_stand q [] h = h
pieces_stand q (literal c ∷ ps) h = let s = both (is_data_but q c) _ h in (s.0, pieces_stand q ps s.1)
pieces_stand q (referring r ∷ ps) h = let s = both (is_reference r) _ h in (reference_stands r s.0, pieces_stand q ps s.1)

abbrev pub are_specifications : List Specification → Bool
are_specifications [] = true
are_specifications (s ∷ more) =
    some_in is_space s.space && (is_name s.name && (all_in is_space s.space_before_equals && (all_in is_space s.space_after_equals && (are_pieces (quote_mark s.quote) s.value && are_specifications more))))

specifications_stand : (ss : List Specification) → T (are_specifications ss) → SpecificationsStand ss
specifications_stand [] h = h
specifications_stand (s ∷ more) h =
    let a = both (some_in is_space s.space) _ h in
    let b = both (is_name s.name) _ a.1 in
    let c = both (all_in is_space s.space_before_equals) _ b.1 in
    let d = both (all_in is_space s.space_after_equals) _ c.1 in
    let e = both (are_pieces (quote_mark s.quote) s.value) _ d.1 in
    (some_in_stands is_space s.space a.0, (name_tests s.name).0 b.0, (all_in_tests is_space s.space_before_equals).0 c.0, (all_in_tests is_space s.space_after_equals).0 d.0, pieces_stand (quote_mark s.quote) s.value e.0, specifications_stand more e.1)

abbrev pub is_tag : Tag → Bool
is_tag t = is_name t.name && (are_specifications t.attributes && (are_distinct (specified_names t.attributes) && all_in is_space t.space))

tag_stands : (t : Tag) → T (is_tag t) → TagStands t
tag_stands t h =
    let a = both (is_name t.name) _ h in
    let b = both (are_specifications t.attributes) _ a.1 in
    let c = both (are_distinct (specified_names t.attributes)) _ b.1 in
    ((name_tests t.name).0 a.0, specifications_stand t.attributes b.0, (distinct_tests (specified_names t.attributes)).0 c.0, (all_in_tests is_space t.space).0 c.1)

abbrev pub is_pi_text : List ℕ → List ℕ → Bool
is_pi_text [] text = bytes_eq text []
is_pi_text (s ∷ space) text = all_in is_space (s ∷ space) && is_text is_char (codes "?>") text

pi_text_stands : (s d : List ℕ) → T (is_pi_text s d) → PIText s d
pi_text_stands [] d h = same_is d [] h
pi_text_stands (x ∷ s) d h =
    let a = both (all_in is_space (x ∷ s)) _ h in
    let b = text_stands is_char (codes "?>") d a.1 in
    ((all_in_tests is_space (x ∷ s)).0 a.0, b.0, b.1)

abbrev pub is_pi_target : List ℕ → Bool
is_pi_target n = is_name n && not (bytes_eq (map small_letter n) (codes "xml"))

pi_target_stands : (n : List ℕ) → T (is_pi_target n) → PITarget n
pi_target_stands n h =
    let a = both (is_name n) _ h in
    ((name_tests n).0 a.0, λ e. T_not (bytes_eq (map small_letter n) (codes "xml")) a.1 (subst (λ v. T (bytes_eq (map small_letter n) v)) e (same_refl (map small_letter n))))

abbrev pub is_char_data : List ℕ → Bool
is_char_data d = is_text is_data (codes "]]>") d

abbrev pub is_content : Content → Bool
is_content (char_data d) = is_char_data d
is_content (reference d r more) = is_char_data d && (is_reference r && is_content more)
is_content (cdata_section d x more) = is_char_data d && (is_text is_char (codes "]]>") x && is_content more)
is_content (instruction d p more) = is_char_data d && (is_pi_target p.target && (is_pi_text p.space p.text && is_content more))
is_content (comment d x more) = is_char_data d && ((all_in is_char x && not (contains (codes "--") (x ++ codes "-"))) && is_content more)
is_content (empty_tag d t more) = is_char_data d && (is_tag t && is_content more)
is_content (tagged d t children z more) = is_char_data d && (is_tag t && (is_content children && ((bytes_eq z.name t.name && all_in is_space z.space) && is_content more)))

pub content_stands : (t : Content) → T (is_content t) → ContentStands t
content_stands (char_data d) h = text_stands is_data (codes "]]>") d h
content_stands (reference d r more) h =
    let a = both (is_char_data d) _ h in
    let b = both (is_reference r) _ a.1 in
    (text_stands is_data (codes "]]>") d a.0, reference_stands r b.0, content_stands more b.1)
content_stands (cdata_section d x more) h =
    let a = both (is_char_data d) _ h in
    let b = both (is_text is_char (codes "]]>") x) _ a.1 in
    (text_stands is_data (codes "]]>") d a.0, text_stands is_char (codes "]]>") x b.0, content_stands more b.1)
content_stands (instruction d p more) h =
    let a = both (is_char_data d) _ h in
    let b = both (is_pi_target p.target) _ a.1 in
    let c = both (is_pi_text p.space p.text) _ b.1 in
    (text_stands is_data (codes "]]>") d a.0, pi_target_stands p.target b.0, pi_text_stands p.space p.text c.0, content_stands more c.1)
content_stands (comment d x more) h =
    let a = both (is_char_data d) _ h in
    let b = both (all_in is_char x && not (contains (codes "--") (x ++ codes "-"))) _ a.1 in
    let c = both (all_in is_char x) _ b.0 in
    (text_stands is_data (codes "]]>") d a.0, ((all_in_tests is_char x).0 c.0, without_from (codes "--") (x ++ codes "-") c.1), content_stands more b.1)
content_stands (empty_tag d t more) h =
    let a = both (is_char_data d) _ h in
    let b = both (is_tag t) _ a.1 in
    (text_stands is_data (codes "]]>") d a.0, tag_stands t b.0, content_stands more b.1)
content_stands (tagged d t children z more) h =
    let a = both (is_char_data d) _ h in
    let b = both (is_tag t) _ a.1 in
    let c = both (is_content children) _ b.1 in
    let e = both (bytes_eq z.name t.name && all_in is_space z.space) _ c.1 in
    let f = both (bytes_eq z.name t.name) _ e.0 in
    (text_stands is_data (codes "]]>") d a.0, tag_stands t b.0, content_stands children c.0, (same_is z.name t.name f.0, (all_in_tests is_space z.space).0 f.1), content_stands more e.1)
