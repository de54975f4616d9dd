-- Floats as they are shown: the texts of `digits`, and nothing where it refuses a number.
use Rattle.std.specs.Prelude.{ℕ, List, [], Ok, Err, Result, Float}
use Rattle.digits.specs.declared.showing.NumberFault.{NumberFault}
use Rattle.digits.specs.Outcomes.{bare_outcome, rounded_outcome}

abbrev pub text_or_none : Result (List ℕ) NumberFault → List ℕ
text_or_none (Ok text) = text
text_or_none (Err fault) = []

unfoldable pub shown_bare : Float → List ℕ
shown_bare x = text_or_none (bare_outcome x)

unfoldable pub shown_rounded : ℕ → Float → List ℕ
shown_rounded precision x = text_or_none (rounded_outcome precision x)
