-- The bytes of an unfinished forest grow by what each step writes, and its closing marks end it.
use Rattle.std.proofs.Common.{◌≡◌, ℕ, Bool, true, false, cond, List, [], ◌∷◌, ◌++◌, sym, refl, ap, ◌∙◌}
use mathlib.Core.Bool.{false≢true}
use Rattle.std.proofs.lemmas.List.{append-nil, append_assoc}
use Rattle.markup.specs.Attributes.{Attribute, attributes_then}
use Rattle.markup.specs.Trees.{empty, element, Written, is_empty, followed_by}
use Rattle.markup.specs.Renderings.{tag_end, render}
use Rattle.markup.specs.Unfinished.{OpenElement, Unfinished, open_element, unfinished, open_names, in_start_tag, start_tag, before_content, outer, content_so_far, open_so_far, so_far, end_mark, end_tags, closing_marks, owed, begin, give_to, add, add_at, ended, end_at, end_innermost, all_ended, finished}
use Rattle.markup.specs.Growth.{Growth, GrowthOfNames, ClosingMarks}
use Rattle.markup.proofs.Written.{attributes_rest, attributes_join}
use Rattle.markup.proofs.Renders.{render_rest, render_both, followed_by_nothing, followed_by_some, empty_is}

-- with its tag ended, the innermost is as the others
tag_ended : (stack : List OpenElement) → open_so_far stack ++ before_content (in_start_tag stack) ≡ outer stack
tag_ended [] = refl
tag_ended (e ∷ around) = go (is_empty e.children) refl
  where
    start : List ℕ
    start = start_tag e.name e.attributes

    go : (b : Bool) → is_empty e.children ≡ b → (outer around ++ (start ++ cond (is_empty e.children) [] (62 ∷ render e.children []))) ++ before_content (is_empty e.children) ≡ outer around ++ (start ++ 62 ∷ render e.children [])
    go true h = rw (empty_is e.children h, append-nil start, append_assoc (outer around) start (62 ∷ []))
    go false h = rw (h, append-nil (outer around ++ (start ++ 62 ∷ render e.children [])))

-- content x after what is so far
after_tag : (outside : Written) (stack : List OpenElement) (x : List ℕ) → render outside [] ++ (outer stack ++ x) ≡ so_far (unfinished outside stack) ++ (before_content (in_start_tag stack) ++ x)
after_tag outside stack x =
    let tag = before_content (in_start_tag stack) in
    rw (← tag_ended stack, append_assoc (open_so_far stack) tag x, append_assoc (render outside []) (open_so_far stack) (tag ++ x))

begun_grows : (name : List ℕ) (attributes : List Attribute) (u : Unfinished) → so_far (begin name attributes u) ≡ so_far u ++ (before_content (in_start_tag u.stack) ++ start_tag name attributes)
begun_grows name attributes u =
    ap (λ z. render u.outside [] ++ (outer u.stack ++ z)) (append-nil (start_tag name attributes))
    ∙ after_tag u.outside u.stack (start_tag name attributes)

-- attributes

given_grows_at : (given : List Attribute) (outside : Written) (stack : List OpenElement) → in_start_tag stack ≡ true → so_far (unfinished outside (give_to given stack)) ≡ so_far (unfinished outside stack) ++ attributes_then given []
given_grows_at given outside [] h = absurd (false≢true h)
given_grows_at given outside (e ∷ around) h =
    let n = e.name in
    let a = attributes_then given [] in
    let start = start_tag n e.attributes in
    let none : content_so_far e.children ≡ [] = ap (λ b. cond b [] (62 ∷ render e.children [])) h in
    let longer : start_tag n (e.attributes ++ given) ≡ start ++ a =
    ap (λ z. 60 ∷ (n ++ z)) (attributes_join e.attributes given [] ∙ attributes_rest e.attributes a)
    ∙ ap (λ z. 60 ∷ z) (sym (append_assoc n (attributes_then e.attributes []) a))
    in
    ap (λ z. render outside [] ++ (outer around ++ (start_tag n (e.attributes ++ given) ++ z))) none
    ∙ ap (λ z. render outside [] ++ (outer around ++ z)) (append-nil (start_tag n (e.attributes ++ given)) ∙ longer)
    ∙ ap (λ z. render outside [] ++ (outer around ++ (z ++ a))) (sym (append-nil start) ∙ ap (λ z. start ++ z) (sym none))
    ∙ ap (λ z. render outside [] ++ z) (sym (append_assoc (outer around) (start ++ content_so_far e.children) a))
    ∙ sym (append_assoc (render outside []) (outer around ++ (start ++ content_so_far e.children)) a)

-- content

added_outer : (content outside : Written) (stack : List OpenElement) → is_empty content ≡ false → so_far (add_at content outside stack) ≡ render outside [] ++ (outer stack ++ render content [])
added_outer content outside [] h = append-nil _ ∙ render_both outside content
added_outer content outside (e ∷ around) h =
    let start = start_tag e.name e.attributes in
    ap (λ z. render outside [] ++ (outer around ++ z))
    (ap (λ b. start ++ cond b [] (62 ∷ render (followed_by e.children content) [])) (followed_by_some e.children content h)
    ∙ ap (λ z. start ++ 62 ∷ z) (render_both e.children content)
    ∙ sym (append_assoc start (62 ∷ render e.children []) (render content [])))
    ∙ ap (λ z. render outside [] ++ z) (sym (append_assoc (outer around) (start ++ 62 ∷ render e.children []) (render content [])))

added_grows : (content : Written) (u : Unfinished) → is_empty content ≡ false → so_far (add content u) ≡ so_far u ++ (before_content (in_start_tag u.stack) ++ render content [])
added_grows content u h = added_outer content u.outside u.stack h ∙ after_tag u.outside u.stack (render content [])

nothing_added : (outside : Written) (stack : List OpenElement) → add_at empty outside stack ≡ unfinished outside stack
nothing_added outside [] = ap (λ z. unfinished z []) (followed_by_nothing outside)
nothing_added outside (e ∷ around) = ap (λ z. unfinished outside (open_element e.name e.attributes z ∷ around)) (followed_by_nothing e.children)

-- the innermost ended

ended_whole : (e : OpenElement) → (start_tag e.name e.attributes ++ content_so_far e.children) ++ end_mark (is_empty e.children) e.name ≡ render (ended e) []
ended_whole e = go (is_empty e.children) refl
  where
    n : List ℕ
    n = e.name

    start : List ℕ
    start = start_tag n e.attributes

    go : (b : Bool) → is_empty e.children ≡ b → (start ++ content_so_far e.children) ++ end_mark (is_empty e.children) n ≡ render (ended e) []
    go true h =
        ap (λ b. (start ++ cond b [] (62 ∷ render e.children [])) ++ end_mark b n) h
        ∙ ap (λ z. z ++ 47 ∷ 62 ∷ []) (append-nil start)
        ∙ ap (λ z. 60 ∷ z) (append_assoc n (attributes_then e.attributes []) (47 ∷ 62 ∷ []))
        ∙ ap (λ z. 60 ∷ (n ++ z)) (sym (attributes_rest e.attributes (47 ∷ 62 ∷ [])))
        ∙ ap (λ b. 60 ∷ (n ++ attributes_then e.attributes (tag_end b [] (render e.children (60 ∷ 47 ∷ (n ++ 62 ∷ [])))))) (sym h)
    go false h =
        let k = e.children in
        let end = 60 ∷ 47 ∷ (n ++ 62 ∷ []) in
        ap (λ b. (start ++ cond b [] (62 ∷ render k [])) ++ end_mark b n) h
        ∙ append_assoc start (62 ∷ render k []) end
        ∙ ap (λ z. start ++ 62 ∷ z) (sym (render_rest k end))
        ∙ ap (λ z. 60 ∷ z) (append_assoc n (attributes_then e.attributes []) (62 ∷ render k end))
        ∙ ap (λ z. 60 ∷ (n ++ z)) (sym (attributes_rest e.attributes (62 ∷ render k end)))
        ∙ ap (λ b. 60 ∷ (n ++ attributes_then e.attributes (tag_end b [] (render k end)))) (sym h)

ended_grows : (outside : Written) (e : OpenElement) (around : List OpenElement) → so_far (end_innermost (unfinished outside (e ∷ around))) ≡ so_far (unfinished outside (e ∷ around)) ++ end_mark (is_empty e.children) e.name
ended_grows outside e around =
    let b = start_tag e.name e.attributes ++ content_so_far e.children in
    let m = end_mark (is_empty e.children) e.name in
    rw (added_outer (ended e) outside around refl, ← ended_whole e, append_assoc (render outside []) (outer around ++ b) m, append_assoc (outer around) b m)

pub growth : Growth
growth =
    record {
      begun = begun_grows;
      given = λ given u h. given_grows_at given u.outside u.stack h;
      added = added_grows;
      added_nothing = λ u. nothing_added u.outside u.stack;
      ended = ended_grows;
    }

-- Names and tags

given_names : (given : List Attribute) (stack : List OpenElement) → (open_names (give_to given stack) ≡ open_names stack) × (in_start_tag (give_to given stack) ≡ in_start_tag stack)
given_names given [] = (refl, refl)
given_names given (e ∷ around) = (refl, refl)

added_names : (content outside : Written) (stack : List OpenElement) → is_empty content ≡ false → (open_names (add_at content outside stack).stack ≡ open_names stack) × (in_start_tag (add_at content outside stack).stack ≡ false)
added_names content outside [] h = (refl, refl)
added_names content outside (e ∷ around) h = (refl, followed_by_some e.children content h)

pub growth_of_names : GrowthOfNames
growth_of_names =
    record {
      given = λ given u. given_names given u.stack;
      added = λ content u h. added_names content u.outside u.stack h;
      ended = λ outside e around. added_names (ended e) outside around refl;
    }

-- The closing marks

-- nothing is unended: end tags alone
marks_of_ended : (names : List (List ℕ)) → closing_marks false names ≡ end_tags names
marks_of_ended [] = refl
marks_of_ended (n ∷ names) = refl

ended_owes : (outside : Written) (e : OpenElement) (around : List OpenElement) → end_mark (is_empty e.children) e.name ++ owed (end_innermost (unfinished outside (e ∷ around))) ≡ owed (unfinished outside (e ∷ around))
ended_owes outside e around =
    let s = added_names (ended e) outside around refl in
    let m = end_mark (is_empty e.children) e.name in
    ap (λ z. m ++ closing_marks (in_start_tag (end_at outside (e ∷ around)).stack) z) s.0
    ∙ ap (λ b. m ++ closing_marks b (open_names around)) s.1
    ∙ ap (λ z. m ++ z) (marks_of_ended (open_names around))

ended_forest : (outside : Written) (stack : List OpenElement) → finished (end_at outside stack) ≡ finished (unfinished outside stack)
ended_forest outside [] = refl
ended_forest outside (e ∷ []) =
    followed_by_nothing (followed_by outside (ended e))
    ∙ ap (λ z. followed_by outside (element e.name e.attributes z empty)) (sym (followed_by_nothing e.children))
ended_forest outside (e ∷ p ∷ around) =
    ap (λ z. followed_by outside (all_ended around (element p.name p.attributes z empty)))
    (followed_by_nothing (followed_by p.children (ended e))
    ∙ ap (λ z. followed_by p.children (element e.name e.attributes z empty)) (sym (followed_by_nothing e.children)))

-- by ending one element after another
whole : (depth : List OpenElement) (outside : Written) (stack : List OpenElement) → open_names depth ≡ open_names stack → so_far (unfinished outside stack) ++ owed (unfinished outside stack) ≡ render (finished (unfinished outside stack)) []
whole depth outside [] h = append-nil (render outside [] ++ []) ∙ append-nil (render outside []) ∙ ap (λ z. render z []) (sym (followed_by_nothing outside))
whole [] outside (e ∷ around) h = cc
whole (d ∷ depth) outside (e ∷ around) h =
    let u = unfinished outside (e ∷ around) in
    let v = end_innermost u in
    let m = end_mark (is_empty e.children) e.name in
    let names : open_names depth ≡ open_names v.stack = tail h ∙ sym (added_names (ended e) outside around refl).0 in
    ap (λ z. so_far u ++ z) (sym (ended_owes outside e around))
    ∙ sym (append_assoc (so_far u) m (owed v))
    ∙ ap (λ z. z ++ owed v) (sym (ended_grows outside e around))
    ∙ whole depth v.outside v.stack names
    ∙ ap (λ z. render z []) (ended_forest outside (e ∷ around))
  where
    tail : {n k : List ℕ} {ns ks : List (List ℕ)} → n ∷ ns ≡ k ∷ ks → ns ≡ ks
    tail e = cc

pub whole_of : (u : Unfinished) → so_far u ++ owed u ≡ render (finished u) []
whole_of u = whole u.stack u.outside u.stack refl

pub marks_close : ClosingMarks
marks_close =
    record {
      whole = whole_of;
      ended = ended_owes;
      same_forest = λ u. ended_forest u.outside u.stack;
      at_the_end = λ outside. followed_by_nothing outside;
    }
