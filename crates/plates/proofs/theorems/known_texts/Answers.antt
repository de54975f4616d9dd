use Rattle.std.proofs.Common.{refl}
use Rattle.checks.specs.Ids.{id_verdict, id_in}
use Rattle.plates.proofs.theorems.known_texts.Goals as goal

pub returns : goal.returns
unfolding id_verdict id_in
returns c = record {
  opened = refl;
  nine = refl;
  tight = refl;
  closed_up = refl;
  nested = refl;
  spaces = refl;
  longest = refl;
  too_long = refl;
  finest = refl;
  too_fine = refl;
  deepest = refl;
  too_deep = refl;
  in_gradient = refl;
  nothing_open = refl;
}
