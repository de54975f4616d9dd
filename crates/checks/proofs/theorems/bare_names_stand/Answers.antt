use Rattle.checks.proofs.Names as proof
use Rattle.checks.proofs.theorems.bare_names_stand.Goals as goal

pub returns : goal.returns
returns c = proof.bare_names_stand
