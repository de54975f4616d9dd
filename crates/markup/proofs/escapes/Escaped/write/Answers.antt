use Rattle.std.proofs.Common.{rules}
use Rattle.markup.proofs.Written.{escaped_none, escaped_more}
use Rattle.markup.proofs.escapes.Escaped.write.Goals as goal

pub loop-byte-init : goal.loop-byte-init
loop-byte-init g c = search (rules, escaped_none)

pub loop-byte-preserved : goal.loop-byte-preserved
loop-byte-preserved g c = search (rules, escaped_more)
