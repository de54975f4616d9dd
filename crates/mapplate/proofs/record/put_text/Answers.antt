use Rattle.std.proofs.Common.{◌≡◌, ℕ, List, ◌∙◌, ap, ◌++◌, drop, rules, length}
use Rattle.std.specs.Iterator.Adapters.{map_while_source, map_while_callee}
use Rattle.mapplate.proofs.Texts.{held_from}
use Rattle.mapplate.proofs.record.put_text.Goals as goal

pub returns : goal.returns
returns g c =
    let ran = c.in_ok-extend.ensures.ran in
    let held = g.S.Store.held c.args.store.now in
    let from = ap map_while_source ran.2 ∙ c.map_while.ensures.source in
    let callee = ap map_while_callee ran.2 ∙ c.map_while.ensures.closure in
    let end : (map_while_source ran.0).end ≡ length held = ap (λ r. r.end) from ∙ c.count.ensures in
    let given : ran.1 ≡ drop (map_while_source ran.0).start held = held_from _ _ held (λ place answer f' q. search rules) ran.1 ran.0 callee end ran.4 in
    ran.3.0 ∙ ap (λ (xs : List ℕ). c.args.out.now.items ++ xs) (given ∙ ap (λ r. drop r.start held) from)
