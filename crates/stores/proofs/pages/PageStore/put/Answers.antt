use Rattle.stores.proofs.Paged.{page_put}
use Rattle.stores.proofs.pages.PageStore.put.Goals as goal

pub invariant_of-self : goal.invariant_of-self
invariant_of-self c = page_put _ _ c.args.byte c.self.inside.buffer.now c.self.invariant c.if-self.false
