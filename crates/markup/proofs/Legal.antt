-- What may be written stays so, step by step; and its bytes with the closing marks read as the finished forest.
use Rattle.std.proofs.Common.{◌≡◌, ℕ, Bool, true, false, cond, List, [], ◌∷◌, ◌++◌, map, sym, refl, ap, ◌∙◌, subst, ap₂}
use lib.Utf8.{encode, encodes}
use Rattle.std.proofs.lemmas.Str.{encodes-append}
use Rattle.std.proofs.lemmas.List.{map-append}
use Rattle.markup.specs.Attributes.{Attribute, attributes_then}
use Rattle.markup.specs.Tags.{end_tag}
use Rattle.markup.specs.Trees.{empty, character, element, Written, characters, is_empty, followed_by, plain, LegalAttributes, WellFormed}
use Rattle.markup.specs.Renderings.{render, encoded, encoded_attribute}
use Rattle.markup.specs.Readings.{ReadsOnlyAs}
use Rattle.markup.specs.Unfinished.{OpenElement, Unfinished, open_element, unfinished, open_names, in_start_tag, start_tag, outer, content_so_far, open_so_far, so_far, end_mark, end_tags, closing_marks, owed, give_to, add_at, ended, end_at, all_ended, finished, LegalStack, Legal, encoded_open, encoded_unfinished}
use Rattle.markup.specs.Growth.{LegalSteps, EncodedSoFar, ReadsBackUnfinished}
use Rattle.markup.proofs.LineEnds.{reads_back}
use Rattle.markup.proofs.Encodings.{attributes_encoded, render_encoded, encoded_empty}
use Rattle.markup.proofs.Unfinished.{whole_of}

pub legal_join : (a b : List Attribute) → LegalAttributes a → LegalAttributes b → LegalAttributes (a ++ b)
legal_join [] b h k = k
legal_join (x ∷ a) b h k = (h.0, h.1, legal_join a b h.2 k)

pub followed_by_legal : (a b : Written) → WellFormed a → WellFormed b → WellFormed (followed_by a b)
followed_by_legal empty b h k = k
followed_by_legal (character c a) b h k = (h.0, followed_by_legal a b h.1 k)
followed_by_legal (element n ps l a) b h k = (h.0, h.1, h.2, h.3, followed_by_legal a b h.4 k)

added_legal : (content outside : Written) (stack : List OpenElement) → WellFormed content → WellFormed outside → LegalStack stack → Legal (add_at content outside stack)
added_legal content outside [] h k l = (followed_by_legal outside content k h, tt)
added_legal content outside (e ∷ around) h k l = (k, ((l.0.0, l.0.1, l.0.2, followed_by_legal e.children content l.0.3 h), l.1))

ended_legal : (outside : Written) (stack : List OpenElement) → WellFormed outside → LegalStack stack → Legal (end_at outside stack)
ended_legal outside [] k l = (k, tt)
ended_legal outside (e ∷ around) k l = added_legal (ended e) outside around (l.0.0, l.0.1, l.0.2, l.0.3, tt) k l.1

all_ended_legal : (stack : List OpenElement) (inside : Written) → LegalStack stack → WellFormed inside → WellFormed (all_ended stack inside)
all_ended_legal [] inside l h = h
all_ended_legal (e ∷ around) inside l h =
    all_ended_legal around _ l.1 (l.0.0, l.0.1, l.0.2, followed_by_legal e.children inside l.0.3 h, tt)

pub finished_legal : (u : Unfinished) → Legal u → WellFormed (finished u)
finished_legal u h = followed_by_legal u.outside _ h.0 (all_ended_legal u.stack empty h.1 tt)

pub legal_steps : LegalSteps
legal_steps =
    record {
      begun = λ name attributes u n a d h. (h.0, ((n, a, d, tt), h.1));
      given = λ attributes outside e around a d h. (h.0, ((h.1.0.0, legal_join e.attributes attributes h.1.0.1 a, d, h.1.0.3), h.1.1));
      added = λ content u w h. added_legal content u.outside u.stack w h.0 h.1;
      ended = λ u h. ended_legal u.outside u.stack h.0 h.1;
      finished = finished_legal;
    }

-- Bytes in place of characters

start_tag_encoded : (n : List ℕ) (ps : List Attribute) → start_tag (encodes n) (map encoded_attribute ps) ≡ encodes (start_tag n ps)
unfolding encode
start_tag_encoded n ps = ap (λ z. 60 ∷ (encodes n ++ z)) (attributes_encoded ps []) ∙ ap (λ z. 60 ∷ z) (sym (encodes-append n (attributes_then ps [])))

content_encoded : (k : Written) → content_so_far (encoded k) ≡ encodes (content_so_far k)
unfolding encode
content_encoded k =
    ap (λ b. cond b [] (62 ∷ render (encoded k) [])) (encoded_empty k)
    ∙ ap (λ z. cond (is_empty k) [] (62 ∷ z)) (render_encoded k [])
    ∙ go (is_empty k)
  where
    go : (b : Bool) → cond b [] (62 ∷ encodes (render k [])) ≡ encodes (cond b [] (62 ∷ render k []))
    go true = refl
    go false = refl

greater_encoded : (k : Written) → 62 ∷ render (encoded k) [] ≡ encodes (62 ∷ render k [])
unfolding encode
greater_encoded k = ap (λ z. 62 ∷ z) (render_encoded k [])

outer_encoded : (stack : List OpenElement) → outer (map encoded_open stack) ≡ encodes (outer stack)
outer_encoded [] = refl
outer_encoded (e ∷ around) =
    let start = start_tag e.name e.attributes in
    let inside = 62 ∷ render e.children [] in
    cc (outer_encoded around, start_tag_encoded e.name e.attributes, greater_encoded e.children, encodes-append (outer around) (start ++ inside), encodes-append start inside)

open_encoded : (stack : List OpenElement) → open_so_far (map encoded_open stack) ≡ encodes (open_so_far stack)
open_encoded [] = refl
open_encoded (e ∷ around) =
    let start = start_tag e.name e.attributes in
    let inside = content_so_far e.children in
    cc (outer_encoded around, start_tag_encoded e.name e.attributes, content_encoded e.children, encodes-append (outer around) (start ++ inside), encodes-append start inside)

bytes_encoded : (u : Unfinished) → so_far (encoded_unfinished u) ≡ encodes (so_far u)
bytes_encoded u =
    ap₂ (λ x y. x ++ y) (render_encoded u.outside []) (open_encoded u.stack) ∙ sym (encodes-append (render u.outside []) (open_so_far u.stack))

end_tag_encoded : (n : List ℕ) → end_tag (encodes n) ≡ encodes (end_tag n)
unfolding encode
end_tag_encoded n = ap (λ z. 60 ∷ 47 ∷ z) (sym (encodes-append n (62 ∷ [])))

end_tags_encoded : (names : List (List ℕ)) → end_tags (map encodes names) ≡ encodes (end_tags names)
end_tags_encoded [] = refl
end_tags_encoded (n ∷ names) = ap₂ (λ x y. x ++ y) (end_tag_encoded n) (end_tags_encoded names) ∙ sym (encodes-append (end_tag n) (end_tags names))

end_mark_encoded : (b : Bool) (n : List ℕ) → end_mark b (encodes n) ≡ encodes (end_mark b n)
unfolding encode
end_mark_encoded true n = refl
end_mark_encoded false n = end_tag_encoded n

pub marks_encoded : (b : Bool) (names : List (List ℕ)) → closing_marks b (map encodes names) ≡ encodes (closing_marks b names)
marks_encoded b [] = refl
marks_encoded b (n ∷ names) = ap₂ (λ x y. x ++ y) (end_mark_encoded b n) (end_tags_encoded names) ∙ sym (encodes-append (end_mark b n) (end_tags names))

names_encoded : (stack : List OpenElement) → open_names (map encoded_open stack) ≡ map encodes (open_names stack)
names_encoded [] = refl
names_encoded (e ∷ around) = ap (λ z. encodes e.name ∷ z) (names_encoded around)

tag_encoded : (stack : List OpenElement) → in_start_tag (map encoded_open stack) ≡ in_start_tag stack
tag_encoded [] = refl
tag_encoded (e ∷ around) = encoded_empty e.children

pub owed_encoded : (u : Unfinished) → owed (encoded_unfinished u) ≡ encodes (owed u)
owed_encoded u =
    ap₂ closing_marks (tag_encoded u.stack) (names_encoded u.stack) ∙ marks_encoded (in_start_tag u.stack) (open_names u.stack)

-- Steps on bytes

characters_followed : (cs : List ℕ) (a b : Written) → followed_by (characters cs a) b ≡ characters cs (followed_by a b)
characters_followed [] a b = refl
characters_followed (c ∷ cs) a b = ap (character c) (characters_followed cs a b)

followed_encoded : (a b : Written) → encoded (followed_by a b) ≡ followed_by (encoded a) (encoded b)
followed_encoded empty b = refl
followed_encoded (character c a) b = ap (characters (encode c)) (followed_encoded a b) ∙ sym (characters_followed (encode c) (encoded a) (encoded b))
followed_encoded (element n ps k a) b = ap (element (encodes n) (map encoded_attribute ps) (encoded k)) (followed_encoded a b)

given_encoded : (given : List Attribute) (stack : List OpenElement) → map encoded_open (give_to given stack) ≡ give_to (map encoded_attribute given) (map encoded_open stack)
given_encoded given [] = refl
given_encoded given (e ∷ around) = ap (λ z. open_element (encodes e.name) z (encoded e.children) ∷ map encoded_open around) (map-append encoded_attribute e.attributes given)

added_encoded : (content outside : Written) (stack : List OpenElement) → encoded_unfinished (add_at content outside stack) ≡ add_at (encoded content) (encoded outside) (map encoded_open stack)
added_encoded content outside [] = ap (λ z. unfinished z []) (followed_encoded outside content)
added_encoded content outside (e ∷ around) =
    ap (λ z. unfinished (encoded outside) (open_element (encodes e.name) (map encoded_attribute e.attributes) z ∷ map encoded_open around)) (followed_encoded e.children content)

ended_encoded : (outside : Written) (stack : List OpenElement) → encoded_unfinished (end_at outside stack) ≡ end_at (encoded outside) (map encoded_open stack)
ended_encoded outside [] = refl
ended_encoded outside (e ∷ around) = added_encoded (ended e) outside around

pub encoded_so_far : EncodedSoFar
encoded_so_far =
    record {
      bytes = bytes_encoded;
      marks = marks_encoded;
      owed = owed_encoded;
      names = λ u. names_encoded u.stack;
      tag = λ u. tag_encoded u.stack;
      begun = λ name attributes u. refl;
      given = λ given u. ap (unfinished (encoded u.outside)) (given_encoded given u.stack);
      added = λ content u. added_encoded content u.outside u.stack;
      ended = λ u. ended_encoded u.outside u.stack;
    }

-- What the bytes read as

reads_back_characters : (u : Unfinished) → Legal u → ReadsOnlyAs (encodes (so_far u) ++ encodes (owed u)) (plain (finished u))
reads_back_characters u h =
    subst (λ z. ReadsOnlyAs z (plain (finished u)))
    (ap encodes (sym (whole_of u)) ∙ encodes-append (so_far u) (owed u))
    (reads_back (finished u) (finished_legal u h))

pub reads_back_unfinished : ReadsBackUnfinished
reads_back_unfinished =
    record {
      characters = reads_back_characters;
      bytes = λ u h. subst (λ z. ReadsOnlyAs z (plain (finished u))) (ap₂ (λ x y. x ++ y) (sym (bytes_encoded u)) (sym (owed_encoded u))) (reads_back_characters u h);
    }
