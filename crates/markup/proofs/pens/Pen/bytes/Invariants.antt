use Rattle.std.proofs.Common.{◌≡◌, take}
use Rattle.markup.specs.Pens.{after}
use Rattle.markup.specs.State.{state}
use Rattle.markup.proofs.pens.Pen.bytes.Given as goal

abbrev pub invariant-loop-byte : goal.invariant-loop-byte
invariant-loop-byte g l = state g.S.Store l.self ≡ after (state g.S.Store l.initial.self) (take l.byte-index l.bytes)
