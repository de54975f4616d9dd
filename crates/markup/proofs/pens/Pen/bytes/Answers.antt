use Rattle.std.proofs.Common.{rules}
use Rattle.std.proofs.lemmas.List.{take_more, take_all}
use Rattle.markup.proofs.Chains.{after_push}
use Rattle.markup.proofs.pens.Pen.bytes.Goals as goal

pub loop-byte-preserved : goal.loop-byte-preserved
loop-byte-preserved g c = search (rules, after_push, take_more)

pub returns : goal.returns
returns g c = search (rules, take_all)
