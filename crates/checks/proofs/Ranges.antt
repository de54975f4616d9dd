-- The table rule without its bound on the nodes looked at, and the turns of its loop.
use Rattle.std.proofs.Common.{◌≡◌, ℕ, zero, suc, ◌+◌, ◌-◌, ◌<◌, ◌≤◌, Bool, true, false, cond, ◌&&◌, eqb, ltb, leb, Some, None, Ok, Err, is_ok, refl, ap, ◌∙◌, arith}
use Rattle.std.proofs.lemmas.Bool.{ltb-true, leb-true, lt-ltb, le-ltb, and_parts}
use Rattle.drawing.specs.declared.tables.Drawing.{Drawing}
use Rattle.drawing.specs.Tables.{node_at}
use Rattle.checks.specs.declared.tables.Broken.{Broken}
use Rattle.checks.specs.Tables.{Held, broken, row_stands, held_by, sits, held_at, goes_on, tiles, range_stands}

-- a node that is not broken ends after itself and inside the range, and its row is there
pub record Sits (d : Drawing) (i to : ℕ) : Type 0 where
  pub after : i < (node_at d i).end
  pub within : (node_at d i).end ≤ to
  pub row : row_stands d (node_at d i) ≡ true

pub sits_at : (d : Drawing) (depth i to : ℕ) → is_ok (held_at d depth i to) ≡ true → Sits d i to
unfolding held_at
sits_at d depth i to = go (sits d (node_at d i) i to) refl
  where
    go : (b : Bool) → sits d (node_at d i) i to ≡ b
        → is_ok (cond b (held_by (node_at d i).kind depth i (node_at d i).end (node_at d (i + 1))) broken) ≡ true → Sits d i to
    go true p e =
        let q = and_parts (ltb i (node_at d i).end) (leb (node_at d i).end to && row_stands d (node_at d i)) p in
        let r = and_parts (leb (node_at d i).end to) (row_stands d (node_at d i)) q.1 in
        record { after = ltb-true _ _ q.0; within = leb-true _ _ r.0; row = r.1 }
    go false p e = cc

-- two ways to go on agree, where they do at what the node holds and at what follows it
agree : (d : Drawing) (depth i to : ℕ) (inner outer : ℕ → Bool) (a b : Bool) (h : Held) → held_at d depth i to ≡ h
    → (Sits d i to → (deep : ℕ) → inner deep ≡ outer deep) → (Sits d i to → a ≡ b) → goes_on h inner a ≡ goes_on h outer b
agree d depth i to inner outer a b (Err x) e p q = refl
agree d depth i to inner outer a b (Ok None) e p q = q (sits_at d depth i to (ap is_ok e))
agree d depth i to inner outer a b (Ok (Some deep)) e p q = let s = sits_at d depth i to (ap is_ok e) in rw (p s deep, q s)

-- how far it may look does not matter, once it is far enough
far : (d : Drawing) (f g depth i to : ℕ) → to - i ≤ f → to - i ≤ g → tiles f d depth i to ≡ tiles g d depth i to
unfolding tiles
far d zero zero depth i to l m = refl
far d zero (suc g) depth i to l m = let h : to ≤ i = omega arith in rw (le-ltb i to h)
far d (suc f) zero depth i to l m = let h : to ≤ i = omega arith in rw (le-ltb i to h)
far d (suc f) (suc g) depth i to l m =
    ap (λ x. cond (ltb i to) x (eqb i to))
    (agree d depth i to _ _ _ _ (held_at d depth i to) refl
    (λ s deep. far d f g deep (i + 1) (node_at d i).end (omega arith) (omega arith))
    (λ s. far d f g depth (node_at d i).end to (omega arith) (omega arith)))

-- the definition without that number
pub range_end : (d : Drawing) (depth i to : ℕ) → to ≤ i → range_stands d depth i to ≡ eqb i to
unfolding range_stands tiles
range_end d depth i to h = far d (to - i) zero depth i to (omega arith) (omega arith)

pub range_more : (d : Drawing) (depth i to : ℕ) → i < to
    → range_stands d depth i to ≡ goes_on (held_at d depth i to) (λ deep. range_stands d deep (i + 1) (node_at d i).end) (range_stands d depth (node_at d i).end to)
unfolding range_stands tiles
range_more d depth i to l =
    far d (to - i) (suc (to - (i + 1))) depth i to (omega arith) (omega arith)
    ∙ rw (lt-ltb i to l)
    (agree d depth i to _ _ _ _ (held_at d depth i to) refl
    (λ s deep. far d (to - (i + 1)) ((node_at d i).end - (i + 1)) deep (i + 1) (node_at d i).end (omega arith) (omega arith))
    (λ s. far d (to - (i + 1)) (to - (node_at d i).end) depth (node_at d i).end to (omega arith) (omega arith)))

-- the turns of the loop
pub range_broken : (d : Drawing) (depth i to : ℕ) (b : Broken) → i < to → held_at d depth i to ≡ Err b → range_stands d depth i to ≡ false
range_broken d depth i to b l e = rw (range_more d depth i to l, e)

pub range_leaf : (d : Drawing) (depth i to : ℕ) → i < to → held_at d depth i to ≡ Ok None → range_stands d depth i to ≡ range_stands d depth (node_at d i).end to
range_leaf d depth i to l e = rw (range_more d depth i to l, e)

pub range_bad : (d : Drawing) (depth i to deep : ℕ) → i < to → held_at d depth i to ≡ Ok (Some deep)
    → range_stands d deep (i + 1) (node_at d i).end ≡ false → range_stands d depth i to ≡ false
range_bad d depth i to deep l e b = rw (range_more d depth i to l, e, b)

pub range_good : (d : Drawing) (depth i to deep : ℕ) → i < to → held_at d depth i to ≡ Ok (Some deep)
    → range_stands d deep (i + 1) (node_at d i).end ≡ true → range_stands d depth i to ≡ range_stands d depth (node_at d i).end to
range_good d depth i to deep l e b = rw (range_more d depth i to l, e, b)

pub ruleset turns = (range_end, range_broken, range_leaf, range_bad, range_good)
