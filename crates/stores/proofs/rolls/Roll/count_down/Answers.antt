use Rattle.std.proofs.Common.{◌≡◌, [], ◌∷◌, ◌++◌, sym, subst}
use Rattle.stores.specs.Seen.{Seen, front}
use Rattle.stores.proofs.Rolled.{count_down, seen}
use Rattle.stores.proofs.rolls.Roll.count_down.Goals as goal

pub invariant_of-self-inside : goal.invariant_of-self-inside
invariant_of-self-inside c =
    let r = c.self.inside in
    let zero = subst (λ (s : Seen). s.held ≡ front s.held ++ 0 ∷ []) (sym c.self.view_is) c.requires in
    ((count_down r.records r.len _ r.buffer.now c.self.invariant zero c.spot-record.ensures.record).is.laid, tt)

pub invariant_of-self : goal.invariant_of-self
invariant_of-self c =
    let r = c.self.inside in
    let zero = subst (λ (s : Seen). s.held ≡ front s.held ++ 0 ∷ []) (sym c.self.view_is) c.requires in
    (count_down r.records r.len _ r.buffer.now c.self.invariant zero c.spot-record.ensures.record).is

pub returns : goal.returns
returns c =
    let r = c.self.inside in
    let zero = subst (λ (s : Seen). s.held ≡ front s.held ++ 0 ∷ []) (sym c.self.view_is) c.requires in
    rw (← c.self.view_is) (seen r.records r.len _ r.buffer.now _ _ c.self.invariant (count_down r.records r.len _ r.buffer.now c.self.invariant zero c.spot-record.ensures.record))
