use Rattle.markup.proofs.Unfinished.{marks_close}
use Rattle.markup.proofs.readings.closing_marks_stand.Goals as goal

pub returns : goal.returns
returns c = marks_close
