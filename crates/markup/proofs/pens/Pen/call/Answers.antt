use Rattle.std.proofs.Common.{ap, ◌∙◌}
use Rattle.markup.specs.Pens.{fits}
use Rattle.markup.specs.State.{state}
use Rattle.markup.proofs.Calls.{fits_after, settled_call}
use Rattle.markup.proofs.pens.Pen.call.Goals as goal

pub returns-clause-told : goal.returns-clause-told
returns-clause-told g c =
    c.settle.ensures.told ∙ ap (λ z. fits z c.args.owed) c.write.ensures ∙ fits_after (state g.S.Store c.args.self.now) _ c.args.owed (g.S.Store.within c.args.self.now.store)

pub returns-clause-done : goal.returns-clause-done
returns-clause-done g c =
    settled_call (state g.S.Store c.args.self.now) _ c.args.owed _ _ _ (g.S.Store.within c.args.self.now.store) c.mark-mark.ensures c.write.ensures c.settle.ensures.done
