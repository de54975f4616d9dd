use Rattle.std.proofs.Common.{◌≡◌, take}
use Rattle.markup.specs.State.{state}
use Rattle.markup.specs.Escapes.{escape_value, after_escaped}
use Rattle.markup.specs.Lists.{further}
use Rattle.markup.proofs.lists.JoinedShown.show.Given as goal

abbrev pub invariant-loop-item : goal.invariant-loop-item
invariant-loop-item g l =
    let out = l.initial.out in
    let so_far = further l.self.separator.now g.V.Shown.shown (take l.item-index l.further) in
    record {
      same_pen : l.out.pen.ghost_name ≡ out.pen.ghost_name;
      same_quote : l.out.escape ≡ out.escape;
      wrote : state g.S.Store l.out.pen.now ≡ after_escaped (state g.S.Store out.pen.now) (escape_value out.escape) so_far;
    }
