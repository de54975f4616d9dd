-- The bytes that a store gives for its places, one after the other, are the bytes that it holds.
use Rattle.std.proofs.Common.{◌≡◌, ℕ, ◌+◌, ◌<◌, ◌≤◌, List, [], ◌∷◌, length, drop, Option, Some, None, ap, sym, ◌∙◌, arith, slice_index, MatchOption, rules}
use Rattle.std.proofs.lemmas.List.{drop_more, drop_all}
use Rattle.std.proofs.iter.Yields.{nat_range_steps}
use Rattle.std.specs.Fn.{Called, Mut}
use Rattle.std.specs.Iterator.{Drains}
use Rattle.std.specs.Iterator.Adapters.{map_while_steps, map_while_source, map_while_callee}
use Rattle.std.specs.declared.iter.MapWhile.{MapWhile}
use Rattle.std.specs.declared.ops.Range.{Range}
use Rattle.stores.specs.Meaning.{ByteAt}

module _ {F : Type 0} (g : Mut F (ℕ × Unit {0}) (Option ℕ)) (f : F) (held : List ℕ)
    (gives : (place : ℕ) (answer : Option ℕ) (f' : F) → Called g f (place, tt) answer f' → (f' ≡ f) × ByteAt held place answer) where
  -- where no byte comes, none is left
  ends_at : (r r' : Range ℕ) (c c' : F) (o : Option ℕ) (N : Type 0) → c ≡ f → r.end ≡ length held → nat_range_steps r o r'
      → MatchOption o N (λ x. Called g c (x, tt) None c') → length held ≤ r.start
  ends_at r r' c c' None N is end p q = omega (arith, end, p.1.0)
  ends_at r r' c c' (Some x) N is end p q = rw p.1.1 at (gives x None c' (rw is at q)).1

  -- where a byte comes, it is the next one
  gives_at : (r r' : Range ℕ) (c c' : F) (x : ℕ) (o : Option ℕ) → c ≡ f → r.end ≡ length held → nat_range_steps r o r'
      → MatchOption o ((Some x ≡ None) × (c' ≡ c)) (λ p. Called g c (p, tt) (Some x) c')
      → (c' ≡ f) × (r'.end ≡ length held) × (r'.start ≡ r.start + 1) × (drop r.start held ≡ x ∷ drop (r.start + 1) held)
  gives_at r r' c c' x None is end p q = search rules
  gives_at r r' c c' x (Some place) is end p q =
      let given = gives place (Some x) c' (rw is at q) in
      let at : (r.start < length held) × (x ≡ slice_index held r.start) = rw p.1.1 at given.1 in
      (given.0, p.0 ∙ end, p.1.2, drop_more held r.start 0 at.0 ∙ ap (λ b. b ∷ drop (r.start + 1) held) (sym at.1))

  -- what comes from a place on is what is held from there on
  pub held_from : (xs : List ℕ) (s : MapWhile (Range ℕ) F) → map_while_callee s ≡ f → (map_while_source s).end ≡ length held
      → Drains (map_while_steps nat_range_steps g) s xs → xs ≡ drop (map_while_source s).start held
  held_from [] s is end d =
      let same : s ≡ d.1.0 = d.1.1 in
      let past = ends_at (map_while_source d.1.0) (map_while_source d.0) (map_while_callee d.1.0) (map_while_callee d.0) d.1.2.0 _
      (ap map_while_callee (sym same) ∙ is) (ap (λ (r : MapWhile (Range ℕ) F). (map_while_source r).end) (sym same) ∙ end) d.1.2.1 d.1.2.2 in
      sym (drop_all (map_while_source d.1.0).start held past) ∙ ap (λ (r : MapWhile (Range ℕ) F). drop (map_while_source r).start held) (sym same)
  held_from (x ∷ xs) s is end d =
      let j = d.1.1.0 in
      let step = d.1.1.1 in
      let at = gives_at (map_while_source s) (map_while_source j) (map_while_callee s) (map_while_callee j) x step.0 is end step.1 step.2 in
      let rest = held_from xs j at.0 at.1 (d.0, (d.1.0, d.1.1.2, d.1.2)) in
      ap (λ ys. x ∷ ys) (rest ∙ ap (λ n. drop n held) at.2) ∙ sym at.3
