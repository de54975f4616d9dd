-- A plate holds the bytes of the element list that its calls have made.
use Rattle.std.proofs.Common.{◌≡◌, ℕ, Bool, true, false, cond, ltb, List, [], ◌∷◌, ◌++◌, map, length, Ok, Err, sym, refl, ap, ◌∙◌, subst, ap₂, arith}
use Rattle.markup.specs.Trees.{empty, is_empty, plain}
use Rattle.markup.specs.Renderings.{encoded_attribute}
use Rattle.markup.specs.Readings.{ReadsOnlyAs}
use Rattle.markup.specs.Unfinished.{OpenElement, Unfinished, unfinished, open_names, in_start_tag, before_content, so_far, end_mark, owed, begin, end_innermost, finished, Legal, encoded_unfinished}
use Rattle.markup.specs.Unfinished.{end_tags as end-tags-of, closing_marks as closing-marks-of}
use Rattle.markup.proofs.Unfinished.{growth, growth_of_names, whole_of}
use Rattle.markup.proofs.Legal.{legal_steps, encoded_so_far, reads_back_unfinished}
use Rattle.drawing.specs.declared.options.WriteOptions.{WriteOptions}
use Rattle.drawing.specs.declared.names.AId.{AId}
use Rattle.drawing.specs.declared.names.AId.TheVariants.{Id}
use Rattle.drawing.specs.declared.faults.Fault.{Fault}
use Rattle.drawing.specs.declared.faults.Fault.TheVariants.{Setting, Moment}
use Rattle.drawing.specs.Faults.{outside_nodes, in_attribute}
use Rattle.checks.specs.Verdicts.{Verdict, recast, found_in}
use Rattle.checks.specs.Ids.{id_bytes, id_verdict, id_in}
use Rattle.checks.specs.Settings.{settings_stand}
use Rattle.plates.specs.declared.elements.Element.{Element}
use Rattle.plates.specs.declared.elements.Stage.{Stage}
use Rattle.plates.specs.declared.elements.Stage.TheVariants.{Fresh, Filled, Body}
use Rattle.plates.specs.Elements.{element_name, opening_attributes}
use Rattle.plates.specs.Closing.{start_tag, finish, end_tag, ending, end_tags, closing_marks}
use Rattle.plates.specs.Steps.{PlateState, Act, opens, closes, may_open, required, judged, added, names_after, grown, answered, answer, answers, taken, next, runs, blank}
use Rattle.plates.specs.Forests.{accepted, after_call, after_calls, made_by, ReadsAfterAll}
use Rattle.plates.proofs.Legal.{name_legal, name_encoded, opening_legal, opening_encoded, opening_distinct}
use Rattle.plates.proofs.Promised.{closes_after_all}

-- The plate's words for tags are those of markup

abbrev unended : Stage → Bool
unended Fresh = true
unended Filled = true
unended Body = false

finish_is : (stage : Stage) → finish stage ≡ before_content (unended stage)
finish_is Fresh = refl
finish_is Filled = refl
finish_is Body = refl

ending_is : (stage : Stage) (name : Element) → ending stage name ≡ end_mark (unended stage) (element_name name)
ending_is Fresh name = refl
ending_is Filled name = refl
ending_is Body name = refl

end_tags_is : (names : List Element) → end_tags names ≡ end-tags-of (map element_name names)
end_tags_is [] = refl
end_tags_is (name ∷ names) = ap (λ z. end_tag name ++ z) (end_tags_is names)

marks_is : (stage : Stage) (names : List Element) → closing_marks stage names ≡ closing-marks-of (unended stage) (map element_name names)
marks_is stage [] = refl
marks_is stage (name ∷ names) = ap₂ (λ x y. x ++ y) (ending_is stage name) (end_tags_is names)

-- A plate and the element list

record At (s : PlateState) (u : Unfinished) : Type 0 where
  held : s.held ≡ so_far u
  names : map element_name s.names ≡ open_names u.stack
  stage : unended s.stage ≡ in_start_tag u.stack
  legal : Legal u
  ascii : encoded_unfinished u ≡ u

-- what an accepted call has passed

no : {X F : Type 0} (f : F) → ◌≡◌ {A = Verdict F} (Err f) (Ok tt) → X
no f e = let z : ◌≡◌ {A = ℕ} 0 1 = cc in absurd (omega arith)

passed : (b : Bool) (f : Fault) (v : Verdict Fault) → ◌≡◌ {A = Verdict Fault} (required b f v) (Ok tt) → (b ≡ true) × (◌≡◌ {A = Verdict Fault} v (Ok tt))
passed true f v e = (refl, e)
passed false f v e = no f e

judged_first : (v : Verdict Fault) (s : PlateState) → ◌≡◌ {A = Verdict Fault} (answered v s) (Ok tt) → ◌≡◌ {A = Verdict Fault} v (Ok tt)
judged_first (Err fault) s e = no fault e
judged_first (Ok tt) s e = refl

recast_ok : {F G : Type 0} (words : F → G) (v : Verdict F) → ◌≡◌ {A = Verdict G} (recast words v) (Ok tt) → ◌≡◌ {A = Verdict F} v (Ok tt)
recast_ok words (Err fault) e = no (words fault) e
recast_ok words (Ok tt) e = refl

chosen : {F : Type 0} (x y : Bool) (f g : F) → ◌≡◌ {A = Verdict F} (cond x (Err f) (cond y (Ok tt) (Err g))) (Ok tt) → y ≡ true
chosen true y f g e = no f e
chosen false true f g e = refl
chosen false false f g e = no g e

id_good : (a : AId) (id : List ℕ) → ◌≡◌ {A = Verdict Fault} (recast outside_nodes (id_in a id)) (Ok tt) → id_bytes id ≡ true
unfolding id_in id_verdict
id_good a id e =
    let one = recast_ok outside_nodes (id_in a id) e in
    let two = recast_ok in_attribute (found_in a (id_verdict id)) one in
    let three = recast_ok (λ fault. record { place = a; fault = fault }) (id_verdict id) two in
    chosen (ltb 64 (length id)) (id_bytes id) _ _ three

open_at : (s : PlateState) (u : Unfinished) (o : WriteOptions) (name : Element) (id : List ℕ) → At s u → ◌≡◌ {A = Verdict Fault} (judged s.names (opens o name id)) (Ok tt) → At (grown s (opens o name id)) (accepted u (opens o name id))
open_at s u o name id at j =
    let a = passed (settings_stand o) Setting _ j in
    let b = passed (may_open s.names) Moment _ a.1 in
    let i = id_good Id id b.1 in
    let n = element_name name in
    let ps = opening_attributes o name id in
    record {
      held =
          ap₂ (λ x y. x ++ (y ++ start_tag o name id)) at.held (finish_is s.stage ∙ ap before_content at.stage)
          ∙ sym (growth.begun n ps u);
      names = ap (λ z. n ∷ z) at.names;
      stage = refl;
      legal = legal_steps.begun n ps u (name_legal name) (opening_legal o name id a.0 i) (opening_distinct o name id) at.legal;
      ascii =
          encoded_so_far.begun n ps u
          ∙ ap (λ z. begin z (map encoded_attribute ps) (encoded_unfinished u)) (name_encoded name)
          ∙ ap (λ z. begin n z (encoded_unfinished u)) (opening_encoded o name id a.0 i)
          ∙ ap (begin n ps) at.ascii;
    }

close_at : (s : PlateState) (u : Unfinished) → At s u → ◌≡◌ {A = Verdict Fault} (judged s.names closes) (Ok tt) → At (grown s closes) (accepted u closes)
close_at s u at j = go s.names u.stack refl refl
  where
    differ : {x : List ℕ} {xs : List (List ℕ)} → x ∷ xs ≡ [] → ⊥
    differ e = let z : ◌≡◌ {A = ℕ} 0 1 = cc in omega arith

    first : {x y : List ℕ} {xs ys : List (List ℕ)} → x ∷ xs ≡ y ∷ ys → x ≡ y
    first e = cc

    others : {x y : List ℕ} {xs ys : List (List ℕ)} → x ∷ xs ≡ y ∷ ys → xs ≡ ys
    others e = cc

    go : (names : List Element) (stack : List OpenElement) → s.names ≡ names → u.stack ≡ stack → At (grown s closes) (end_innermost u)
    go [] stack e f = no Moment (sym (ap (λ z. judged z closes) e) ∙ j)
    go (name ∷ names) [] e f = absurd (differ (sym (ap (map element_name) e) ∙ at.names ∙ ap open_names f))
    go (name ∷ names) (p ∷ around) e f =
        let r = u.outside in
        let same_names : element_name name ∷ map element_name names ≡ p.name ∷ open_names around = sym (ap (map element_name) e) ∙ at.names ∙ ap open_names f in
        let tag : unended s.stage ≡ is_empty p.children = at.stage ∙ ap in_start_tag f in
        let is : u ≡ unfinished r (p ∷ around) = ap (unfinished r) f in
        let mark : added s.names s.stage closes ≡ end_mark (is_empty p.children) p.name =
        ap (λ z. added z s.stage closes) e ∙ ending_is s.stage name ∙ ap₂ end_mark tag (first same_names)
        in
        let grows = growth_of_names.ended r p around in
        record {
          held =
              ap₂ (λ x y. x ++ y) (at.held ∙ ap so_far is) mark
              ∙ sym (growth.ended r p around)
              ∙ ap (λ z. so_far (end_innermost z)) (sym is);
          names =
              ap (λ z. map element_name (names_after z closes)) e
              ∙ others same_names
              ∙ sym grows.0
              ∙ ap (λ (z : Unfinished). open_names (end_innermost z).stack) (sym is);
          stage = sym grows.1 ∙ ap (λ (z : Unfinished). in_start_tag (end_innermost z).stack) (sym is);
          legal = legal_steps.ended u at.legal;
          ascii = encoded_so_far.ended u ∙ ap end_innermost at.ascii;
        }

grown_at : (act : Act) (s : PlateState) (u : Unfinished) → At s u → ◌≡◌ {A = Verdict Fault} (judged s.names act) (Ok tt) → At (grown s act) (accepted u act)
grown_at (opens o name id) s u at j = open_at s u o name id at j
grown_at closes s u at j = close_at s u at j

-- any call, accepted or refused, and all of them
next_at : (s : PlateState) (u : Unfinished) (act : Act) → At s u → At (next s act) (after_call u act (answer s act))
next_at s u act at = go (answer s act) refl
  where
    go : (v : Verdict Fault) → answer s act ≡ v → At (taken v s (grown s act)) (after_call u act v)
    go (Err fault) e = at
    go (Ok tt) e = grown_at act s u at (judged_first (judged s.names act) (grown s act) e)

runs_at : (acts : List Act) (s : PlateState) (u : Unfinished) → At s u → At (runs s acts) (after_calls u acts (answers s acts))
runs_at [] s u at = at
runs_at (act ∷ acts) s u at = runs_at acts (next s act) (after_call u act (answer s act)) (next_at s u act at)

blank_at : (capacity : ℕ) → At (blank capacity) (unfinished empty [])
blank_at capacity = record { held = refl; names = refl; stage = refl; legal = (tt, tt); ascii = refl }

-- The bytes held and the closing marks

bytes_whole : (s : PlateState) (u : Unfinished) → At s u → s.held ++ closing_marks s.stage s.names ≡ so_far u ++ owed u
bytes_whole s u at =
    ap₂ (λ x y. x ++ y) at.held (marks_is s.stage s.names ∙ ap₂ closing-marks-of at.stage at.names)

pub reads_after_all : ReadsAfterAll
reads_after_all capacity acts =
    let s = runs (blank capacity) acts in
    let u = made_by capacity acts in
    let at = runs_at acts (blank capacity) (unfinished empty []) (blank_at capacity) in
    let e = bytes_whole s u at in
    let r : ReadsOnlyAs (so_far u ++ owed u) (plain (finished u)) =
    subst (λ z. ReadsOnlyAs (so_far z ++ owed z) (plain (finished u))) at.ascii (reads_back_unfinished.bytes u at.legal)
    in
    record {
      whole = e ∙ whole_of u;
      reads = subst (λ z. ReadsOnlyAs z (plain (finished u))) (sym e ∙ sym (closes_after_all capacity acts).whole) r;
    }
