use Rattle.digits.proofs.Known.{known_texts}
use Rattle.digits.proofs.theorems.known_texts_stand.Goals as goal

pub returns : goal.returns
returns c = known_texts
