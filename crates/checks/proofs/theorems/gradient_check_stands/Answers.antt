use Rattle.checks.proofs.Whole as proof
use Rattle.checks.proofs.theorems.gradient_check_stands.Goals as goal

pub returns : goal.returns
returns c = proof.gradient_check_stands
