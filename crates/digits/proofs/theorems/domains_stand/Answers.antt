use Rattle.digits.proofs.Domains as proof
use Rattle.digits.proofs.theorems.domains_stand.Goals as goal

pub returns : goal.returns
returns c = proof.domains_stand
