use Rattle.std.proofs.Common.{◌≡◌, ◌/◌, ◌^◌, ◌++◌}
use Rattle.digits.specs.Decimals.{figures}
use Rattle.digits.specs.Numerals.{text_of}
use Rattle.digits.proofs.spelling.figures_before.Given as goal

abbrev pub invariant-loop-place : goal.invariant-loop-place
invariant-loop-place l = record { text : text_of l.numeral ≡ figures l._place l.number ++ text_of l.initial.numeral; rest : l.rest ≡ l.number / 10 ^ l._place }
