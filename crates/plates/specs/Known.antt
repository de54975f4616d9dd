-- Known texts, proved of the definitions.
use Rattle.std.specs.Prelude.{◌≡◌, ℕ, true, false, List, [], ◌∷◌, length, replicate, None, Ok, Err, codes}
use Rattle.drawing.specs.declared.faults.Fault.{Fault}
use Rattle.drawing.specs.declared.faults.Fault.TheVariants.{Moment, Full}
use Rattle.drawing.specs.Faults.{report}
use Rattle.drawing.specs.declared.options.WriteOptions.{WriteOptions}
use Rattle.drawing.specs.Options.{defaults}
use Rattle.checks.specs.Verdicts.{Verdict}
use Rattle.plates.specs.declared.elements.Element.TheVariants.{Svg, G, LinearGradient}
use Rattle.plates.specs.Steps.{Act, opens, closes, answer, runs, blank}

-- a call that opens g with an id, and options with single quotes or another precision
abbrev pub open_g : WriteOptions → List ℕ → Act
open_g o id = opens o G id

abbrev pub single_quoted : WriteOptions
single_quoted = record { id_prefix = None; preserve_text = false; coordinates_precision = 8; transforms_precision = 8; use_single_quote = true }

abbrev pub precise : ℕ → WriteOptions
precise p = record { id_prefix = None; preserve_text = false; coordinates_precision = p; transforms_precision = 8; use_single_quote = false }

-- the number of the rule that refuses a call, 0 where none does
abbrev pub rule_of : Verdict Fault → ℕ
rule_of (Ok _) = 0
rule_of (Err fault) = (report fault).number

abbrev pub times : {X : Type 0} → ℕ → X → List X
times n x = replicate n x

pub record Known : Type 0 where
  -- open g with id m holds 9 bytes and needs 11
  pub opened : (runs (blank 11) (open_g defaults (codes "m") ∷ [])).held ≡ codes "<g id=\"m\""
  pub nine : length (runs (blank 11) (open_g defaults (codes "m") ∷ [])).held ≡ 9
  pub tight : answer (blank 10) (open_g defaults (codes "m")) ≡ Err Full
  pub closed_up : (runs (blank 11) (open_g defaults (codes "m") ∷ closes ∷ [])).held ≡ codes "<g id=\"m\"/>"
  pub nested : (runs (blank 99) (open_g defaults [] ∷ open_g single_quoted (codes "a") ∷ closes ∷ closes ∷ [])).held ≡ codes "<g><g id='a'/></g>"
  pub spaces : (runs (blank 999) (opens defaults Svg [] ∷ closes ∷ [])).held ≡ codes "<svg xmlns=\"http://www.w3.org/2000/svg\" xmlns:xlink=\"http://www.w3.org/1999/xlink\"/>"
  -- the limits
  pub longest : rule_of (answer (blank 999) (open_g defaults (times 64 109))) ≡ 0
  pub too_long : rule_of (answer (blank 999) (open_g defaults (times 65 109))) ≡ 4
  pub finest : rule_of (answer (blank 999) (open_g (precise 8) [])) ≡ 0
  pub too_fine : rule_of (answer (blank 999) (open_g (precise 9) [])) ≡ 1
  pub deepest : rule_of (answer (runs (blank 999) (times 31 (open_g defaults []))) (open_g defaults [])) ≡ 0
  pub too_deep : rule_of (answer (runs (blank 999) (times 32 (open_g defaults []))) (open_g defaults [])) ≡ 2
  pub in_gradient : rule_of (answer (runs (blank 999) (opens defaults LinearGradient [] ∷ [])) (open_g defaults [])) ≡ 2
  pub nothing_open : answer (blank 999) closes ≡ Err Moment
