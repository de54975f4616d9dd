use Rattle.std.proofs.Common.{◌≡◌, ◌-◌, ◌≤◌, length, take}
use Rattle.stores.specs.Seen.{size_of}
use Rattle.stores.proofs.rolls.RollStore.cut.Given as goal

abbrev pub invariant-loop-self : goal.invariant-loop-self
invariant-loop-self l =
    (l.count ≤ length l.self.held)
    × (take l.count l.self.held ≡ take l.count l.initial.self.held)
    × (size_of l.self ≡ size_of l.initial.self)
    × (l.self.beyond ≡ l.initial.self.beyond)

abbrev pub decreases-loop-self : goal.decreases-loop-self
decreases-loop-self l = length l.self.held - l.count
