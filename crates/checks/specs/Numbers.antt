-- The rule for numbers.
use Rattle.std.specs.Prelude.{Bool, true, cond, ◌&&◌, Ok, Err, Float}
use Rattle.std.specs.Float.Ieee.{le, lt}
use Rattle.digits.specs.Magnitudes.{bare_domain, rounded_domain}
use Rattle.drawing.specs.Tables.{nought, one}
use Rattle.drawing.specs.declared.faults.ValueFault.{ValueFault}
use Rattle.drawing.specs.declared.faults.ValueFault.TheVariants.{Number}
use Rattle.drawing.specs.declared.faults.NumberFault.TheVariants.{OutsideDomain, OutOfRange}
use Rattle.checks.specs.declared.numbers.Domain.{Domain}
use Rattle.checks.specs.declared.numbers.Domain.TheVariants.{Rounded, Bare, Fraction, AboveZero, AtLeastOne, AtLeastZero}
use Rattle.checks.specs.Verdicts.{Verdict}

-- it has a text, rounded or bare
abbrev pub shown_in : Domain → Float → Bool
shown_in Rounded x = rounded_domain x
shown_in Bare x = bare_domain x
shown_in Fraction x = bare_domain x
shown_in AboveZero x = bare_domain x
shown_in AtLeastOne x = bare_domain x
shown_in AtLeastZero x = bare_domain x

-- its attribute takes it
abbrev pub in_range : Domain → Float → Bool
in_range Rounded x = true
in_range Bare x = true
in_range Fraction x = le nought x && le x one
in_range AboveZero x = lt nought x
in_range AtLeastOne x = le one x
in_range AtLeastZero x = le nought x

unfoldable pub number_verdict : Domain → Float → Verdict ValueFault
number_verdict domain x =
    cond (shown_in domain x) (cond (in_range domain x) (Ok tt) (Err (Number OutOfRange))) (Err (Number OutsideDomain))
