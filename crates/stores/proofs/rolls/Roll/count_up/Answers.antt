use Rattle.std.proofs.Common.{◌<◌, sym, subst, arith}
use Rattle.stores.specs.Seen.{Seen}
use Rattle.stores.proofs.Rolled.{count_up, seen}
use Rattle.stores.proofs.rolls.Roll.count_up.Goals as goal

pub invariant_of-self-inside : goal.invariant_of-self-inside
invariant_of-self-inside c =
    let r = c.self.inside in
    let room = subst (λ (s : Seen). 0 < s.room) (sym c.self.view_is) c.requires in
    ((count_up r.records r.len _ r.buffer.now c.self.invariant (omega arith) c.spot-record.ensures.record).is.laid, tt)

pub invariant_of-self : goal.invariant_of-self
invariant_of-self c =
    let r = c.self.inside in
    let room = subst (λ (s : Seen). 0 < s.room) (sym c.self.view_is) c.requires in
    (count_up r.records r.len _ r.buffer.now c.self.invariant (omega arith) c.spot-record.ensures.record).is

pub returns : goal.returns
returns c =
    let r = c.self.inside in
    let room = subst (λ (s : Seen). 0 < s.room) (sym c.self.view_is) c.requires in
    rw (← c.self.view_is) (seen r.records r.len _ r.buffer.now _ _ c.self.invariant (count_up r.records r.len _ r.buffer.now c.self.invariant (omega arith) c.spot-record.ensures.record))
