use Rattle.std.proofs.Common.{◌≡◌, ℕ, ◌<◌}
use Rattle.digits.specs.Scaled.{units_at, gap, step}
use Rattle.digits.proofs.scaled.Scaled.search_places.Given as goal

abbrev pub invariant-loop-place : goal.invariant-loop-place
invariant-loop-place l = (k : ℕ) → k < l.place → units_at l.self.significand (gap l.self.power k) (step l.self.power k) ≡ 0
