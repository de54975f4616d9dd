use Rattle.markup.proofs.Checks.{checks}
use Rattle.markup.proofs.readings.checks_stand.Goals as goal

pub returns : goal.returns
returns c = checks
