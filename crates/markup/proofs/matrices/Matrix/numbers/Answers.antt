use Rattle.std.proofs.Common.{◌≡◌, refl}
use Rattle.markup.specs.Matrices.{numbers_of, rounded_at}
use Rattle.markup.proofs.Maps.{maps_all}
use Rattle.markup.proofs.matrices.Matrix.numbers.Goals as goal

pub returns : goal.returns
returns c =
    let m = c.args.self.now in
    maps_all _ (λ p. p.0.now ≡ m.precision) (rounded_at m.precision) (λ p x y q k w. let z = w.met in (cc, cc)) (numbers_of m.transform) c.map.result _ refl c.map.ensures.items
