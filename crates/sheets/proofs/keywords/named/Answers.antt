use Rattle.std.proofs.Common.{◌≡◌, ◌∙◌, ap, ◌≢◌, rules, tests}
use Rattle.std.specs.Slice.Iter.{iter_rest}
use Rattle.std.proofs.lemmas.Iterator.{first_from_find, YieldsList-from_slice}
use Rattle.std.proofs.lemmas.Iterator.Consumers.{YieldsList-from_copied}
use Rattle.sheets.proofs.Lookups.{named_is}
use Rattle.sheets.proofs.keywords.named.Goals as goal

pub returns : goal.returns
returns g c =
    let spelled = g.K.Keyword.spelled in
    let listed = g.K.Keyword.listed in
    let word = c.args.word.now in
    named_is spelled listed word c.find.result
    (first_from_find _ _ c.find.result (λ d. spelled d ≡ word) (λ d. spelled d ≢ word) c.find.ensures.ran (YieldsList-from_copied (YieldsList-from_slice listed (ap iter_rest c.copied.ensures.source ∙ c.iter.ensures.rest ∙ c.cases.ensures))) (λ x q k. search (rules, tests)) (λ x q k. search (rules, tests)))
