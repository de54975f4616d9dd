use Rattle.std.proofs.Common.{◌≡◌, [], ◌∷◌, ◌++◌, sym, subst}
use Rattle.stores.specs.Seen.{Seen, front}
use Rattle.stores.proofs.Paged.{page_drop}
use Rattle.stores.proofs.pages.Page.count_down.Goals as goal

pub invariant_of-self : goal.invariant_of-self
invariant_of-self c =
    let p = c.self.inside in
    page_drop p.size p.len p.buffer.now c.self.invariant (subst (λ (s : Seen). s.held ≡ front s.held ++ 0 ∷ []) (sym c.self.view_is) c.requires)
