use Rattle.checks.proofs.Whole as proof
use Rattle.checks.proofs.theorems.draw_check_stands.Goals as goal

pub returns : goal.returns
returns c = proof.draw_stands
