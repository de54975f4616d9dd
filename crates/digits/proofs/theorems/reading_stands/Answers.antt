use Rattle.digits.proofs.Reading as proof
use Rattle.digits.proofs.theorems.reading_stands.Goals as goal

pub returns : goal.returns
returns c = proof.reading_stands
