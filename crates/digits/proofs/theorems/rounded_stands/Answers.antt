use Rattle.digits.proofs.RoundedText as proof
use Rattle.digits.proofs.theorems.rounded_stands.Goals as goal

pub returns : goal.returns
returns c = proof.rounded_stands
