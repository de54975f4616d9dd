use Rattle.std.proofs.Common.{◌≡◌, take}
use Rattle.markup.specs.State.{state}
use Rattle.markup.specs.Escapes.{after_escaped}
use Rattle.markup.proofs.escapes.Escaped.write.Given as goal

abbrev pub invariant-loop-byte : goal.invariant-loop-byte
invariant-loop-byte g l = state g.S.Store l.pen ≡ after_escaped (state g.S.Store l.initial.pen) (g.E.Escape.escaped l.escape) (take l.byte-index l.text)
