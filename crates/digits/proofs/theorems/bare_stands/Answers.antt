use Rattle.digits.proofs.BareText as proof
use Rattle.digits.proofs.theorems.bare_stands.Goals as goal

pub returns : goal.returns
returns c = proof.bare_stands
