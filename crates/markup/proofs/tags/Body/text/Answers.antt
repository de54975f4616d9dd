use Rattle.std.proofs.Common.{rules}
use Rattle.markup.specs.Escapes.{after_escaped}
use Rattle.markup.proofs.tags.Body.text.Goals as goal

pub returns : goal.returns
unfolding after_escaped
returns g c = search rules
