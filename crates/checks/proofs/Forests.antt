-- The recursive table rule holds exactly where some shape is laid out in the range.
use Rattle.std.proofs.Common.{◌≡◌, ℕ, zero, suc, ◌+◌, ◌-◌, ◌<◌, ◌≤◌, Bool, true, false, cond, eqb, ltb, Some, None, Ok, Err, is_ok, ◌⊎◌, sym, refl, ap, ◌∙◌, subst, inl, inr, arith}
use Rattle.std.proofs.lemmas.Bool.{ltb-true, eqb-true, lt-ltb, le-leb, eq-eqb, and_parts, cases_lt}
use Rattle.drawing.specs.declared.tables.Kind.{Kind}
use Rattle.drawing.specs.declared.tables.Kind.TheVariants as kind
use Rattle.drawing.specs.declared.tables.Drawing.{Drawing}
use Rattle.drawing.specs.Tables.{node_at}
use Rattle.checks.specs.Tables.{Held, broken, row_stands, is_group, lone_group, held_by, sits, held_at, goes_on, range_stands}
use Rattle.checks.specs.Sound.{Shape, nothing, leaf, group, text, Shallow, IsLeaf, Laid}
use Rattle.checks.proofs.Ranges.{sits_at, range_end, range_more, range_leaf, range_good}

-- a shape that fits the range, with rows that are there
pub record Fits (d : Drawing) (deep i to : ℕ) : Type 0 where
  pub shape : Shape
  pub laid : Laid d i to shape
  pub shallow : Shallow deep shape
  pub ordered : i ≤ to
  pub rows : (k : ℕ) → i ≤ k → k < to → row_stands d (node_at d k) ≡ true

-- ---- what a node holds, taken apart

abbrev Lone : Drawing → ℕ → Type 0
Lone d i = ((node_at d (i + 1)).kind ≡ kind.Group) × ((i + 1 < (node_at d i).end) × ((node_at d (i + 1)).end ≡ (node_at d i).end))

abbrev Holds : Drawing → ℕ → ℕ → Held → Type 0
Holds d deep i (Err x) = Unit {0}
Holds d deep i (Ok None) = IsLeaf (node_at d i).kind × ((node_at d i).end ≡ i + 1)
Holds d deep i (Ok (Some inner)) =
    (((node_at d i).kind ≡ kind.Group) × (deep ≡ suc inner)) ⊎ (((node_at d i).kind ≡ kind.Text) × (Lone d i × (deep ≡ inner)))

group_of : (k : Kind) → is_group k ≡ true → k ≡ kind.Group
group_of kind.Group e = refl
group_of kind.Path e = cc
group_of kind.Image e = cc
group_of kind.Text e = cc

holds_if : (d : Drawing) (deep i : ℕ) (b : Bool) (h : Held) → (b ≡ true → Holds d deep i h) → Holds d deep i (cond b h broken)
holds_if d deep i true h k = k refl
holds_if d deep i false h k = tt

-- the four kinds
holds_by : (d : Drawing) (deep i : ℕ) (k : Kind) → (node_at d i).kind ≡ k
    → Holds d deep i (held_by k deep i (node_at d i).end (node_at d (i + 1)))
holds_by d zero i kind.Group e = tt
holds_by d (suc inner) i kind.Group e = inl (e, refl)
holds_by d deep i kind.Path e = holds_if d deep i _ (Ok None) (λ p. (inl e, eqb-true _ _ p))
holds_by d deep i kind.Image e = holds_if d deep i _ (Ok None) (λ p. (inr e, eqb-true _ _ p))
holds_by d deep i kind.Text e = holds_if d deep i _ (Ok (Some deep)) (λ p.
    let q = and_parts (ltb (i + 1) (node_at d i).end) (lone_group (node_at d (i + 1)) (node_at d i).end) p in
    let l = and_parts (is_group (node_at d (i + 1)).kind) (eqb (node_at d (i + 1)).end (node_at d i).end) q.1 in
    inr (e, ((group_of (node_at d (i + 1)).kind l.0, (ltb-true _ _ q.0, eqb-true _ _ l.1)), refl)))

holds_at : (d : Drawing) (deep i to : ℕ) → Holds d deep i (held_at d deep i to)
unfolding held_at
holds_at d deep i to = holds_if d deep i (sits d (node_at d i) i to) _ (λ p. holds_by d deep i (node_at d i).kind refl)

-- ---- from the rule to a shape

rows_after : (d : Drawing) (i end to : ℕ) → row_stands d (node_at d i) ≡ true
    → ((k : ℕ) → i + 1 ≤ k → k < end → row_stands d (node_at d k) ≡ true)
    → ((k : ℕ) → end ≤ k → k < to → row_stands d (node_at d k) ≡ true)
    → (k : ℕ) → i ≤ k → k < to → row_stands d (node_at d k) ≡ true
rows_after d i end to here inner rest k a b = elim (cases_lt i k) [
  | inl l ↦ elim (cases_lt k end) [ inl m ↦ inner k (omega arith) m | inr m ↦ rest k m b ]
  | inr l ↦ (let e : i ≡ k = omega arith in subst (λ (n : ℕ). row_stands d (node_at d n) ≡ true) e here)
]

no_rows : (d : Drawing) (i end : ℕ) → end ≤ i + 1 → (k : ℕ) → i + 1 ≤ k → k < end → row_stands d (node_at d k) ≡ true
no_rows d i end h k a b = absurd (omega arith)

done : (d : Drawing) (deep i to : ℕ) → to ≤ i → range_stands d deep i to ≡ true → Fits d deep i to
done d deep i to m e =
    let q : i ≡ to = eqb-true i to (sym (range_end d deep i to m) ∙ e) in
    record { shape = nothing; laid = q; shallow = tt; ordered = omega arith; rows = λ k a b. absurd (omega arith) }

-- one node, with the shapes of what it holds and of what follows it
first_node : (f : ℕ) (d : Drawing) (deep i to : ℕ) → to - i ≤ suc f
    → ((inner j end : ℕ) → end - j ≤ f → range_stands d inner j end ≡ true → Fits d inner j end)
    → (h : Held) → held_at d deep i to ≡ h
    → goes_on h (λ inner. range_stands d inner (i + 1) (node_at d i).end) (range_stands d deep (node_at d i).end to) ≡ true
    → Fits d deep i to
first_node f d deep i to l again (Err x) p k = cc
first_node f d deep i to l again (Ok None) p k =
    let s = sits_at d deep i to (ap is_ok p) in
    let h = subst (λ (x : Held). Holds d deep i x) p (holds_at d deep i to) in
    let r = again deep (node_at d i).end to (omega arith) k in
    record {
      shape = leaf r.shape;
      laid = (h.0, (h.1, subst (λ (n : ℕ). Laid d n to r.shape) h.1 r.laid));
      shallow = r.shallow;
      ordered = omega arith;
      rows = rows_after d i (node_at d i).end to s.row (no_rows d i (node_at d i).end (omega arith)) r.rows;
    }
first_node f d deep i to l again (Ok (Some inner)) p k =
    let s = sits_at d deep i to (ap is_ok p) in
    let q = and_parts (range_stands d inner (i + 1) (node_at d i).end) (range_stands d deep (node_at d i).end to) k in
    let c = again inner (i + 1) (node_at d i).end (omega arith) q.0 in
    let r = again deep (node_at d i).end to (omega arith) q.1 in
    elim (subst (λ (x : Held). Holds d deep i x) p (holds_at d deep i to)) [
      | inl g ↦ record {
        shape = group c.shape r.shape;
        laid = (g.0, (c.laid, r.laid));
        shallow = (inner, (g.1, (c.shallow, r.shallow)));
        ordered = omega arith;
        rows = rows_after d i (node_at d i).end to s.row c.rows r.rows;
      }
      | inr g ↦ record {
        shape = text c.shape r.shape;
        laid = (g.0, (g.1.0, (c.laid, r.laid)));
        shallow = (subst (λ (n : ℕ). Shallow n c.shape) (sym g.1.1) c.shallow, r.shallow);
        ordered = omega arith;
        rows = rows_after d i (node_at d i).end to s.row c.rows r.rows;
      }
    ]

pub fits : (fuel : ℕ) (d : Drawing) (deep i to : ℕ) → to - i ≤ fuel → range_stands d deep i to ≡ true → Fits d deep i to
fits zero d deep i to l e = done d deep i to (omega arith) e
fits (suc f) d deep i to l e = elim (cases_lt i to) [
  | inl m ↦ first_node f d deep i to l (λ inner j end. fits f d inner j end) (held_at d deep i to) refl (sym (range_more d deep i to m) ∙ e)
  | inr m ↦ done d deep i to m e
]

-- ---- and back

sits_true : (d : Drawing) (i to : ℕ) → i < (node_at d i).end → (node_at d i).end ≤ to → row_stands d (node_at d i) ≡ true → sits d (node_at d i) i to ≡ true
sits_true d i to a b c = rw (lt-ltb i (node_at d i).end a, le-leb (node_at d i).end to b) c

-- a shape is never longer than its range
pub laid_ordered : (d : Drawing) (i to : ℕ) (s : Shape) → Laid d i to s → i ≤ to
laid_ordered d i to nothing l = omega arith
laid_ordered d i to (leaf others) l = let h = laid_ordered d (i + 1) to others l.1.1 in omega arith
laid_ordered d i to (group children others) l =
    let h = laid_ordered d (i + 1) (node_at d i).end children l.1.0 in
    let k = laid_ordered d (node_at d i).end to others l.1.1 in omega arith
laid_ordered d i to (text child others) l =
    let h = laid_ordered d (i + 1) (node_at d i).end child l.1.1.0 in
    let k = laid_ordered d (node_at d i).end to others l.1.1.1 in omega arith

held_leaf : (d : Drawing) (deep i to : ℕ) → IsLeaf (node_at d i).kind → (node_at d i).end ≡ i + 1 → sits d (node_at d i) i to ≡ true → held_at d deep i to ≡ Ok None
unfolding held_at
held_leaf d deep i to (inl k) e s = rw (s, k, eq-eqb (node_at d i).end (i + 1) e)
held_leaf d deep i to (inr k) e s = rw (s, k, eq-eqb (node_at d i).end (i + 1) e)

held_group : (d : Drawing) (inner i to : ℕ) → (node_at d i).kind ≡ kind.Group → sits d (node_at d i) i to ≡ true → held_at d (suc inner) i to ≡ Ok (Some inner)
unfolding held_at
held_group d inner i to k s = rw (s, k)

held_text : (d : Drawing) (deep i to : ℕ) → (node_at d i).kind ≡ kind.Text → Lone d i → sits d (node_at d i) i to ≡ true → held_at d deep i to ≡ Ok (Some deep)
unfolding held_at
held_text d deep i to k l s =
    rw (s, k, lt-ltb (i + 1) (node_at d i).end l.1.0, l.0, eq-eqb (node_at d (i + 1)).end (node_at d i).end l.1.1)

abbrev Rows : Drawing → ℕ → ℕ → Type 0
Rows d i to = (k : ℕ) → i ≤ k → k < to → row_stands d (node_at d k) ≡ true

pub stands : (d : Drawing) (deep i to : ℕ) (s : Shape) → Laid d i to s → Shallow deep s → Rows d i to → range_stands d deep i to ≡ true
stands d deep i to nothing l w r = range_end d deep i to (omega arith) ∙ eq-eqb i to l
stands d deep i to (leaf others) l w r =
    let o = laid_ordered d (i + 1) to others l.1.1 in
    let here = r i (omega arith) (omega arith) in
    let h = held_leaf d deep i to l.0 l.1.0 (sits_true d i to (omega arith) (omega arith) here) in
    range_leaf d deep i to (omega arith) h
    ∙ stands d deep (node_at d i).end to others (subst (λ (n : ℕ). Laid d n to others) (sym l.1.0) l.1.1) w (λ k a b. r k (omega arith) b)
stands d deep i to (group children others) l w r =
    let a = laid_ordered d (i + 1) (node_at d i).end children l.1.0 in
    let b = laid_ordered d (node_at d i).end to others l.1.1 in
    let here = r i (omega arith) (omega arith) in
    let h = held_group d w.0 i to l.0 (sits_true d i to (omega arith) (omega arith) here) in
    range_good d deep i to w.0 (omega arith) (ap (λ (n : ℕ). held_at d n i to) w.1.0 ∙ h)
    (stands d w.0 (i + 1) (node_at d i).end children l.1.0 w.1.1.0 (λ k p q. r k (omega arith) (omega arith)))
    ∙ (stands d deep (node_at d i).end to others l.1.1 w.1.1.1 (λ k p q. r k (omega arith) q))
stands d deep i to (text child others) l w r =
    let a = laid_ordered d (i + 1) (node_at d i).end child l.1.1.0 in
    let b = laid_ordered d (node_at d i).end to others l.1.1.1 in
    let here = r i (omega arith) (omega arith) in
    let h = held_text d deep i to l.0 l.1.0 (sits_true d i to (omega arith) (omega arith) here) in
    range_good d deep i to deep (omega arith) h
    (stands d deep (i + 1) (node_at d i).end child l.1.1.0 w.0 (λ k p q. r k (omega arith) (omega arith)))
    ∙ (stands d deep (node_at d i).end to others l.1.1.1 w.1 (λ k p q. r k (omega arith) q))
