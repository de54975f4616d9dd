use Rattle.std.proofs.Common.{◌≡◌, ◌<◌, length, take, sym, subst, arith, length-take}
use Rattle.stores.specs.Seen.{Seen}
use Rattle.stores.proofs.Paged.{page_clear}
use Rattle.stores.proofs.pages.Page.clear_last.Goals as goal

pub invariant_of-self : goal.invariant_of-self
invariant_of-self c =
    let p = c.self.inside in
    let s = c.self.invariant.sized in
    let f = c.self.invariant.fits in
    let some = subst (λ (s : Seen). 0 < length s.held) (sym c.self.view_is) c.requires in
    let few : length (take p.len p.buffer.now) ≡ p.len = rw length-take (omega arith) in
    page_clear p.size p.len _ p.buffer.now c.self.invariant (omega arith)
