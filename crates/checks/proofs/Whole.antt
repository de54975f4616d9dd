-- A call's checks accept exactly the sound drawings, and a refusal names the first broken entry.
use Rattle.std.proofs.Common.{◌≡◌, ℕ, zero, suc, ◌+◌, ◌-◌, ◌<◌, ◌≤◌, Bool, true, false, cond, eqb, ltb, leb, List, [], ◌∷◌, length, Some, None, Ok, Err, Decides, filter, sym, refl, ◌∙◌, subst, inl, inr, arith}
use Rattle.std.specs.List.{AllByRecursion}
use Rattle.std.proofs.lemmas.Bool.{false≢true, ltb-true, leb-true, lt-ltb, le-leb, and_parts, and_from, cases_lt}
use Rattle.std.proofs.lemmas.Bool.Decides.{Decides-and, Decides-like}
use Rattle.drawing.specs.declared.faults.AttributeFault.{AttributeFault}
use Rattle.drawing.specs.declared.faults.NodeFault.{NodeFault}
use Rattle.drawing.specs.declared.faults.Fault.{Fault}
use Rattle.drawing.specs.declared.faults.Fault.TheVariants as fault
use Rattle.drawing.specs.Faults.{in_node, of_node, outside_nodes}
use Rattle.drawing.specs.declared.rows.Stop.{Stop}
use Rattle.drawing.specs.declared.tables.Drawing.{Drawing}
use Rattle.drawing.specs.Tables.{node_at, gradient_at, entries}
use Rattle.checks.specs.declared.entries.Rule.{Rule}
use Rattle.checks.specs.declared.entries.Rule.TheVariants as rule
use Rattle.checks.specs.Verdicts.{Verdict, before, recast, found_in, count_up, accepts}
use Rattle.checks.specs.Entries.{rule_number, first_at, by_rules, each}
use Rattle.checks.specs.Rows.{node_fields, gradient_fields, each_stop}
use Rattle.checks.specs.Tables.{counts, few, lists_fit, table_stands, gradient_stands}
use Rattle.checks.specs.Calls.{node_verdict, nodes_verdict}
use Rattle.checks.specs.Sound.{Field, Kept, listed, has_rule, tested_by, ordered, Limited, EntriesAt, Tabled, Sound, GradientTabled, GradientSound, FirstNode, Refused, GradientRefused, DrawStands, GradientStands}
use Rattle.checks.proofs.Keeping.{decides_le}
use Rattle.checks.proofs.Orders.{Outcome, not_all, told, told_at, decides_rule, by_parts, all_listed, listed_places, listed_ordered}
use Rattle.std.proofs.ByRecursion.{all_kept_by}
use Rattle.checks.proofs.Forests.{fits, stands}

-- ---- nodes in table order

abbrev NodesOutcome : Drawing → ℕ → ℕ → Verdict NodeFault → Type 0
NodesOutcome d from to (Ok x) = (i : ℕ) → from ≤ i → i < to → EntriesAt ordered d i
NodesOutcome d from to (Err f) = FirstNode d from to f

one_more : (d : Drawing) (from to : ℕ) → EntriesAt ordered d from → ((i : ℕ) → from + 1 ≤ i → i < to → EntriesAt ordered d i)
    → (i : ℕ) → from ≤ i → i < to → EntriesAt ordered d i
one_more d from to here rest i a b = elim (cases_lt from i) [
  | inl l ↦ rest i (omega arith) b
  | inr l ↦ (let e : from ≡ i = omega arith in subst (λ (n : ℕ). EntriesAt ordered d n) e here)
]

extend : (d : Drawing) (from to : ℕ) (v : Verdict NodeFault) → EntriesAt ordered d from → NodesOutcome d (from + 1) to v → NodesOutcome d from to v
extend d from to (Ok x) here o = one_more d from to here o
extend d from to (Err f) here o = record {
  index = o.index;
  not_before = let h = o.not_before in omega arith;
  not_after = o.not_after;
  node_is = o.node_is;
  earlier_kept = one_more d from o.index here o.earlier_kept;
  here = o.here;
}

nodes_outcome : (n : ℕ) (d : Drawing) (from to : ℕ) → to - from ≡ n → NodesOutcome d from to (count_up (node_verdict d) n from)
unfolding count_up node_verdict
nodes_outcome zero d from to e = λ i a b. absurd (omega arith)
nodes_outcome (suc n) d from to e =
    go (nodes_outcome n d (from + 1) to (omega arith)) (by_rules (node_fields d (node_at d from))) (told (node_fields d (node_at d from)))
  where
    go : NodesOutcome d (from + 1) to (count_up (node_verdict d) n (from + 1)) → (v : Verdict AttributeFault) → Outcome (ordered (node_fields d (node_at d from))) v
        → NodesOutcome d from to (before (recast in_node (found_in from v)) (count_up (node_verdict d) n (from + 1)))
    go rest (Ok x) o = extend d from to (count_up (node_verdict d) n (from + 1)) o rest
    go rest (Err f) o = record {
      index = from;
      not_before = omega arith;
      not_after = omega arith;
      node_is = refl;
      earlier_kept = λ i a b. absurd (omega arith);
      here = o;
    }

-- ---- tables

decides_few : (counts : List ℕ) → Decides (few counts) (AllByRecursion (λ n. n ≤ 16384) counts)
decides_few [] = ((λ _. tt), (λ _. refl))
decides_few (n ∷ counts) = Decides-and _ _ (decides_le n 16384) (decides_few counts)

decides_fit : (d : Drawing) → Decides (lists_fit d) (Limited d)
decides_fit d = Decides-like _
    (λ (nodes, (pool, (groups, (paths, (images, (texts, (chunks, (spans, (segments, (numbers, (references, (families, (shifts, (gradients, (stops, _))))))))))))))).
    record {
      nodes = nodes;
      groups = groups;
      paths = paths;
      images = images;
      texts = texts;
      chunks = chunks;
      spans = spans;
      segments = segments;
      numbers = numbers;
      references = references;
      families = families;
      shifts = shifts;
      gradients = gradients;
      stops = stops;
      pool = pool;
    })
    (λ l. (
      l.nodes,
      (l.pool, (l.groups, (l.paths, (l.images, (l.texts, (l.chunks, (l.spans, (l.segments, (l.numbers, (l.references, (l.families, (l.shifts, (l.gradients, (l.stops, tt)))))))))))))),
    ))
    (Decides-and _ _ (decides_le _ _) (Decides-and _ _ (decides_le _ _) (decides_few (counts d))))

tabled_of : (d : Drawing) (node : ℕ) → table_stands d node ≡ true → Tabled d node
tabled_of d node e =
    let a = and_parts (lists_fit d) _ e in
    let b = and_parts (ltb node (node_at d node).end) _ a.1 in
    let c = and_parts (leb (node_at d node).end (length d.nodes.now)) _ b.1 in
    let f = fits ((node_at d node).end - node) d 64 node (node_at d node).end (omega arith) c.1 in
    record {
      limited = (decides_fit d).0 a.0;
      has_end = ltb-true _ _ b.0;
      within = leb-true _ _ c.0;
      shape = f.shape;
      laid = f.laid;
      shallow = f.shallow;
      places = λ i p q. (decides_rule rule.Place (node_fields d (node_at d i))).0 (f.rows i p q);
    }

table_of : (d : Drawing) (node : ℕ) → Tabled d node → table_stands d node ≡ true
table_of d node t =
    and_from _ _ ((decides_fit d).1 t.limited)
    (and_from _ _ (lt-ltb _ _ t.has_end)
    (and_from _ _ (le-leb _ _ t.within)
    (stands d 64 node (node_at d node).end t.shape t.laid t.shallow
    (λ i p q. (decides_rule rule.Place (node_fields d (node_at d i))).1 (t.places i p q)))))

-- ---- draw

pub draw_stands : DrawStands
draw_stands d node = go (table_stands d node) refl (nodes_verdict d node (node_at d node).end) (nodes_outcome ((node_at d node).end - node) d node (node_at d node).end refl)
  where
    go : (b : Bool) → table_stands d node ≡ b → (v : Verdict NodeFault) → NodesOutcome d node (node_at d node).end v
        → Decides (accepts (cond b (recast of_node v) (Err (fault.Table (Some node))))) (Sound d node)
        × ((f : Fault) → cond b (recast of_node v) (Err (fault.Table (Some node))) ≡ Err f → Refused d node f)
    go false p v o = (
      ((λ e. cc), (λ s. sym p ∙ table_of d node s.tabled)),
      (λ f e. inl (cc, (λ t. false≢true (sym p ∙ table_of d node t)))),
    )
    go true p (Ok x) o =
        let t = tabled_of d node p in (
          ((λ _. record { tabled = t; entries = λ i a b. all_listed (node_fields d (node_at d i)) (t.places i a b) (o i a b) }), (λ _. refl)),
          (λ f e. cc),
        )
    go true p (Err found) o =
        let t = tabled_of d node p in (
          (
            (λ e. cc),
            (λ s. absurd (not_all _ _ o.here (listed_ordered (node_fields d (node_at d o.index)) (s.entries o.index o.not_before o.not_after)))),
          ),
          (λ f e. inr (found, (cc, (t, o)))),
        )

-- ---- gradient

-- a stop has numbers alone
no_stops : (r : Rule) → eqb (rule_number r) 6 ≡ false → (stops : List Stop) → filter (has_rule r) (listed (each_stop stops)) ≡ []
unfolding each
no_stops r h [] = refl
no_stops r h (s ∷ ss) = rw h (no_stops r h ss)

numbers_alone : (d : Drawing) (row : ℕ) → AllByRecursion Kept (tested_by rule.Place (gradient_fields d row)) → AllByRecursion Kept (tested_by rule.Number (gradient_fields d row))
    → AllByRecursion Kept (listed (gradient_fields d row))
numbers_alone d row p n = by_parts (listed (gradient_fields d row)) go
  where
    stops : List Stop
    stops = entries d.stops.now (gradient_at d row).stops

    go : (r : Rule) → AllByRecursion Kept (tested_by r (gradient_fields d row))
    go rule.Place = p
    go rule.Number = n
    go rule.Id = subst (λ (l : List Field). AllByRecursion Kept l) (sym (no_stops rule.Id refl stops)) tt
    go rule.Empty = subst (λ (l : List Field). AllByRecursion Kept l) (sym (no_stops rule.Empty refl stops)) tt
    go rule.Text = subst (λ (l : List Field). AllByRecursion Kept l) (sym (no_stops rule.Text refl stops)) tt
    go rule.Family = subst (λ (l : List Field). AllByRecursion Kept l) (sym (no_stops rule.Family refl stops)) tt

decides_gradient_table : (d : Drawing) (row : ℕ) → Decides (gradient_stands d row) (GradientTabled d row)
decides_gradient_table d row = Decides-and _ _ (decides_fit d) (decides_rule rule.Place (gradient_fields d row))

pub gradient_check_stands : GradientStands
gradient_check_stands d row = go (gradient_stands d row) refl (first_at rule.Number (gradient_fields d row)) (told_at rule.Number (gradient_fields d row))
  where
    placed : GradientSound d row → GradientTabled d row
    placed s = (s.0, listed_places (gradient_fields d row) s.1)

    numbered : GradientSound d row → AllByRecursion Kept (tested_by rule.Number (gradient_fields d row))
    numbered s = all_kept_by (has_rule rule.Number) Kept (listed (gradient_fields d row)) s.1

    go : (b : Bool) → gradient_stands d row ≡ b → (v : Verdict AttributeFault) → Outcome (tested_by rule.Number (gradient_fields d row)) v
        → Decides (accepts (cond b (recast outside_nodes v) (Err (fault.Table None)))) (GradientSound d row)
        × ((f : Fault) → cond b (recast outside_nodes v) (Err (fault.Table None)) ≡ Err f → GradientRefused d row f)
    go false p v o = (
      ((λ e. cc), (λ s. sym p ∙ (decides_gradient_table d row).1 (placed s))),
      (λ f e. inl (cc, (λ t. false≢true (sym p ∙ (decides_gradient_table d row).1 t)))),
    )
    go true p (Ok x) o =
        let t = (decides_gradient_table d row).0 p in
        (((λ _. (t.0, numbers_alone d row t.1 o)), (λ _. refl)), (λ f e. cc))
    go true p (Err found) o =
        let t = (decides_gradient_table d row).0 p in
        (((λ e. cc), (λ s. absurd (not_all _ _ o (numbered s)))), (λ f e. inr (found, (cc, (t, o)))))
