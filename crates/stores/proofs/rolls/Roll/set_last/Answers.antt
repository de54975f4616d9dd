use Rattle.std.proofs.Common.{◌<◌, length, sym, subst, arith}
use Rattle.stores.specs.Seen.{Seen}
use Rattle.stores.proofs.Rolled.{last_byte, seen}
use Rattle.stores.proofs.rolls.Roll.set_last.Goals as goal

pub invariant_of-self-inside : goal.invariant_of-self-inside
invariant_of-self-inside c =
    let r = c.self.inside in
    let k = c.self.invariant.counted in
    let some = subst (λ (s : Seen). 0 < length s.held) (sym c.self.view_is) c.requires in
    ((last_byte r.records r.len _ c.args.byte r.buffer.now c.self.invariant (omega arith) c.spot-place.ensures.byte).is.laid, tt)

pub invariant_of-self : goal.invariant_of-self
invariant_of-self c =
    let r = c.self.inside in
    let k = c.self.invariant.counted in
    let some = subst (λ (s : Seen). 0 < length s.held) (sym c.self.view_is) c.requires in
    (last_byte r.records r.len _ c.args.byte r.buffer.now c.self.invariant (omega arith) c.spot-place.ensures.byte).is

pub returns : goal.returns
returns c =
    let r = c.self.inside in
    let k = c.self.invariant.counted in
    let some = subst (λ (s : Seen). 0 < length s.held) (sym c.self.view_is) c.requires in
    rw (← c.self.view_is) (seen r.records r.len _ r.buffer.now _ _ c.self.invariant (last_byte r.records r.len _ c.args.byte r.buffer.now c.self.invariant (omega arith) c.spot-place.ensures.byte))
