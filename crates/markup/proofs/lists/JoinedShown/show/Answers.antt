use Rattle.std.proofs.Common.{rules}
use Rattle.std.proofs.lemmas.List.{take_all}
use Rattle.markup.proofs.Written.{escaped_none, escaped_two}
use Rattle.markup.proofs.JoinedLists.{further_written}
use Rattle.markup.proofs.lists.JoinedShown.show.Goals as goal

pub loop-item-init : goal.loop-item-init
loop-item-init g c = search (rules, escaped_none)

pub loop-item-preserved : goal.loop-item-preserved
loop-item-preserved g c = search (rules, further_written)

pub returns-after-loop-item-clause-wrote : goal.returns-after-loop-item-clause-wrote
returns-after-loop-item-clause-wrote g c = search (rules, escaped_two, take_all)

pub returns-in_default-clause-wrote : goal.returns-in_default-clause-wrote
returns-in_default-clause-wrote g c = search (rules, escaped_none)
