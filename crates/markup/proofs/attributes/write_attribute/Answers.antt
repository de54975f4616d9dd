use Rattle.std.proofs.Common.{rules}
use Rattle.markup.proofs.Written.{attribute_written}
use Rattle.markup.proofs.attributes.write_attribute.Goals as goal

pub returns : goal.returns
returns g c = search (rules, attribute_written)
