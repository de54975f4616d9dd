use Rattle.digits.proofs.WholeText as proof
use Rattle.digits.proofs.theorems.whole_stands.Goals as goal

pub returns : goal.returns
returns c = proof.whole_stands
