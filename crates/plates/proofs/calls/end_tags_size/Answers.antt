use Rattle.std.proofs.Common.{◌≡◌, rules, arith}
use Rattle.std.specs.List.{sum_by}
use Rattle.std.proofs.lemmas.Iterator.{YieldsList-from_slice, YieldsList-from_map}
use Rattle.std.proofs.lemmas.Iterator.Consumers.{sum_by_from_yields_List}
use Rattle.plates.proofs.Stacks.{tag_size, tags_size, tags_small}
use Rattle.plates.proofs.calls.end_tags_size.Goals as goal

added : (c : goal.After-sum) → c.sum.result ≡ sum_by tag_size c.args.names.now
added c = sum_by_from_yields_List tag_size c.args.names.now c.map.result c.sum.result c.sum.ensures.ran (YieldsList-from_map _ _ (YieldsList-from_slice c.args.names.now (cc)) c.map.ensures.closure (λ x r q k. search rules))

pub returns-clause-size : goal.returns-clause-size
returns-clause-size c = let e = added c in let s = tags_size c.args.names.now in cc

pub returns-clause-bound : goal.returns-clause-bound
returns-clause-bound c = let e = added c in let s = tags_small c.args.names.now in omega arith
