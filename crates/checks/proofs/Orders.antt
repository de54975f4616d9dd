-- The verdict on a row's entries is the first fault in the order of the tests.
use Rattle.std.proofs.Common.{◌≡◌, Bool, true, false, cond, eqb, List, [], ◌∷◌, ◌++◌, Ok, Err, Decides, filter, sym, refl, ap, ◌∙◌}
use Rattle.std.specs.List.{AllByRecursion}
use Rattle.std.proofs.lemmas.List.Elements.{filter-append}
use Rattle.std.proofs.ByRecursion.{All-append, all_kept_by}
use Rattle.std.proofs.lemmas.Bool.{false≢true, eq-eqb}
use Rattle.drawing.specs.declared.faults.ValueFault.{ValueFault}
use Rattle.drawing.specs.declared.faults.AttributeFault.{AttributeFault}
use Rattle.checks.specs.declared.entries.Rule.{Rule}
use Rattle.checks.specs.declared.entries.Rule.TheVariants as rule
use Rattle.checks.specs.Verdicts.{Verdict, before, recast, accepts}
use Rattle.checks.specs.Entries.{Entry, entry_verdict, in_field, judged, rule_of, rule_number, Fields, none, field, ◌then◌, first_at, by_rules}
use Rattle.checks.specs.Sound.{Field, Kept, listed, has_rule, tested_by, ordered, FirstBroken}
use Rattle.checks.proofs.Keeping.{decides_entry, entry_fault}

-- ---- the first fault of a list of fields

abbrev first_broken : List Field → Verdict AttributeFault
first_broken [] = Ok tt
first_broken (f ∷ fs) = before (recast (in_field f.attribute) (entry_verdict f.entry)) (first_broken fs)

before_assoc : (a b c : Verdict AttributeFault) → before a (before b c) ≡ before (before a b) c
before_assoc (Ok x) b c = refl
before_assoc (Err f) b c = refl

before_none : (a : Verdict AttributeFault) → a ≡ before a (Ok tt)
before_none (Ok x) = refl
before_none (Err f) = refl

first_append : (xs ys : List Field) → first_broken (xs ++ ys) ≡ before (first_broken xs) (first_broken ys)
first_append [] ys = refl
first_append (x ∷ xs) ys =
    ap (before (recast (in_field x.attribute) (entry_verdict x.entry))) (first_append xs ys)
    ∙ before_assoc (recast (in_field x.attribute) (entry_verdict x.entry)) (first_broken xs) (first_broken ys)

-- one rule's walk finds it among the fields that the rule looks at
first_is : (r : Rule) (fields : Fields) → first_at r fields ≡ first_broken (tested_by r fields)
unfolding judged
first_is r none = refl
first_is r (field attribute e) = go (eqb (rule_number r) (rule_number (rule_of e)))
  where
    go : (b : Bool) → cond b (recast (in_field attribute) (entry_verdict e)) (Ok tt) ≡ first_broken (cond b (record { attribute = attribute; entry = e } ∷ []) [])
    go true = before_none (recast (in_field attribute) (entry_verdict e))
    go false = refl
first_is r (fields then others) =
    ap (λ v. before v (first_at r others)) (first_is r fields)
    ∙ ap (before (first_broken (tested_by r fields))) (first_is r others)
    ∙ sym (ap first_broken (filter-append (has_rule r) (listed fields) (listed others)) ∙ first_append (tested_by r fields) (tested_by r others))

append_of : (r : Rule) (fields : Fields) (v : Verdict AttributeFault) (ys : List Field) → v ≡ first_broken ys
    → before (first_at r fields) v ≡ first_broken (tested_by r fields ++ ys)
append_of r fields v ys e =
    ap (λ u. before u v) (first_is r fields) ∙ ap (before (first_broken (tested_by r fields))) e ∙ sym (first_append (tested_by r fields) ys)

-- and all rules one after the other, in the order of the tests
by_rules_is : (fields : Fields) → by_rules fields ≡ first_broken (ordered fields)
by_rules_is fields =
    append_of rule.Id fields _ _
    (append_of rule.Empty fields _ _
    (append_of rule.Number fields _ _ (append_of rule.Text fields _ _ (first_is rule.Family fields))))

-- ---- what it says

abbrev pub Outcome : List Field → Verdict AttributeFault → Type 0
Outcome fs (Ok x) = AllByRecursion Kept fs
Outcome fs (Err f) = FirstBroken fs f

push : (f : Field) (fs : List Field) (v : Verdict AttributeFault) → Kept f → Outcome fs v → Outcome (f ∷ fs) v
push f fs (Ok x) k o = (k, o)
push f fs (Err a) k o = record {
  earlier = f ∷ o.earlier;
  broken = o.broken;
  later = o.later;
  split = ap (λ (l : List Field). f ∷ l) o.split;
  earlier_kept = (k, o.earlier_kept);
  not_kept = o.not_kept;
  rule_is = o.rule_is;
  attribute_is = o.attribute_is;
}

outcome : (fs : List Field) → Outcome fs (first_broken fs)
outcome [] = tt
outcome (f ∷ fs) = go (outcome fs) (entry_verdict f.entry) refl
  where
    go : Outcome fs (first_broken fs) → (v : Verdict ValueFault) → entry_verdict f.entry ≡ v → Outcome (f ∷ fs) (before (recast (in_field f.attribute) v) (first_broken fs))
    go rest (Ok x) e = push f fs (first_broken fs) ((decides_entry f.entry).0 (ap accepts e)) rest
    go rest (Err v) e = record {
      earlier = [];
      broken = f;
      later = fs;
      split = refl;
      earlier_kept = tt;
      not_kept = λ k. false≢true (sym (ap accepts e) ∙ (decides_entry f.entry).1 k);
      rule_is = entry_fault f.entry v e;
      attribute_is = refl;
    }

all_split : (xs ys : List Field) → AllByRecursion Kept (xs ++ ys) → AllByRecursion Kept xs × AllByRecursion Kept ys
all_split [] ys k = (tt, k)
all_split (x ∷ xs) ys k = let s = all_split xs ys k.1 in ((k.0, s.0), s.1)

-- a field that is not kept stands in no list of kept ones
pub not_all : (fs : List Field) (f : AttributeFault) → FirstBroken fs f → AllByRecursion Kept fs → ⊥
not_all fs f b k = b.not_kept (all_split b.earlier (b.broken ∷ b.later) (rw b.split at k)).1.0

decides_by : (fs : List Field) (v : Verdict AttributeFault) → Outcome fs v → Decides (accepts v) (AllByRecursion Kept fs)
decides_by fs (Ok x) o = ((λ _. o), (λ _. refl))
decides_by fs (Err f) o = ((λ e. cc), (λ k. absurd (not_all fs f o k)))

-- one rule over a row
pub told_at : (r : Rule) (fields : Fields) → Outcome (tested_by r fields) (first_at r fields)
told_at r fields = rw (first_is r fields) (outcome (tested_by r fields))

-- and all of them
pub told : (fields : Fields) → Outcome (ordered fields) (by_rules fields)
told fields = rw (by_rules_is fields) (outcome (ordered fields))

pub decides_rule : (r : Rule) (fields : Fields) → Decides (accepts (first_at r fields)) (AllByRecursion Kept (tested_by r fields))
decides_rule r fields = decides_by (tested_by r fields) (first_at r fields) (told_at r fields)

-- ---- all entries, and those of each rule

of_own_rule : (e : Entry) → eqb (rule_number (rule_of e)) (rule_number (rule_of e)) ≡ true
of_own_rule e = eq-eqb _ _ refl

kept_head : (P : Field → Type 0) (b : Bool) (f : Field) (fs : List Field) → b ≡ true → AllByRecursion P (cond b (f ∷ fs) fs) → P f
kept_head P true f fs e k = k.0
kept_head P false f fs e k = absurd (false≢true e)

kept_tail : (P : Field → Type 0) (b : Bool) (f : Field) (fs : List Field) → AllByRecursion P (cond b (f ∷ fs) fs) → AllByRecursion P fs
kept_tail P true f fs k = k.1
kept_tail P false f fs k = k

-- what every rule finds right is right
pub by_parts : (fs : List Field) → ((r : Rule) → AllByRecursion Kept (filter (has_rule r) fs)) → AllByRecursion Kept fs
by_parts [] k = tt
by_parts (f ∷ fs) k = (
  kept_head Kept (has_rule (rule_of f.entry) f) f (filter (has_rule (rule_of f.entry)) fs) (of_own_rule f.entry) (k (rule_of f.entry)),
  by_parts fs (λ r. kept_tail Kept (has_rule r f) f (filter (has_rule r) fs) (k r)),
)

-- all entries of a row keep their rules: those of the places, and those in the order of the tests
pub all_listed : (fields : Fields) → AllByRecursion Kept (tested_by rule.Place fields) → AllByRecursion Kept (ordered fields) → AllByRecursion Kept (listed fields)
all_listed fields places o =
    let ids = all_split (tested_by rule.Id fields) _ o in
    let empties = all_split (tested_by rule.Empty fields) _ ids.1 in
    let numbers = all_split (tested_by rule.Number fields) _ empties.1 in
    let texts = all_split (tested_by rule.Text fields) _ numbers.1 in
    by_parts (listed fields) (λ r. elim r as (λ q. AllByRecursion Kept (tested_by q fields)) [
      | rule.Place ↦ places
      | rule.Id ↦ ids.0
      | rule.Empty ↦ empties.0
      | rule.Number ↦ numbers.0
      | rule.Text ↦ texts.0
      | rule.Family ↦ texts.1
    ])

pub listed_places : (fields : Fields) → AllByRecursion Kept (listed fields) → AllByRecursion Kept (tested_by rule.Place fields)
listed_places fields k = all_kept_by (has_rule rule.Place) Kept (listed fields) k

pub listed_ordered : (fields : Fields) → AllByRecursion Kept (listed fields) → AllByRecursion Kept (ordered fields)
listed_ordered fields k =
    All-append Kept (tested_by rule.Id fields) _ (part rule.Id)
    (All-append Kept (tested_by rule.Empty fields) _ (part rule.Empty)
    (All-append Kept (tested_by rule.Number fields) _ (part rule.Number)
    (All-append Kept (tested_by rule.Text fields) _ (part rule.Text) (part rule.Family))))
  where
    part : (r : Rule) → AllByRecursion Kept (tested_by r fields)
    part r = all_kept_by (has_rule r) Kept (listed fields) k
