use Rattle.std.proofs.Common.{◌≡◌, ◌≤◌, ◌++◌, decimal}
use Rattle.digits.specs.Numerals.{text_of}
use Rattle.digits.proofs.spelling.whole_before.Given as goal

abbrev pub invariant-loop-rest : goal.invariant-loop-rest
invariant-loop-rest l = record { text : decimal l.rest ++ text_of l.numeral ≡ decimal l.number ++ text_of l.initial.numeral; smaller : l.rest ≤ l.number }

abbrev pub decreases-loop-rest : goal.decreases-loop-rest
decreases-loop-rest l = l.rest
