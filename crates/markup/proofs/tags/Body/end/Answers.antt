use Rattle.std.proofs.Common.{[], ◌∷◌, codes, refl}
use Rattle.markup.specs.State.{state}
use Rattle.markup.proofs.Chains.{parts}
use Rattle.markup.proofs.tags.Body.end.Goals as goal

pub returns : goal.returns
returns g c = cc (parts (state g.S.Store c.args.pen.now) (codes "</" ∷ c.args.self.name.now ∷ codes ">" ∷ []) _ refl)
