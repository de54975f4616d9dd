use Rattle.digits.proofs.Texts.{plain_bytes}
use Rattle.digits.proofs.theorems.plain_stands.Goals as goal

pub returns : goal.returns
returns c = plain_bytes
