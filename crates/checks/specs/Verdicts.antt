-- Verdicts: accepted, or the first fault.
use Rattle.std.specs.Prelude.{ℕ, zero, suc, ◌+◌, Bool, true, false, cond, Ok, Err, Result}
use Rattle.drawing.specs.declared.faults.Found.{Found}

abbrev pub Verdict : Type 0 → Type 0
Verdict F = Result (Unit {0}) F

-- the fault in another one's words
abbrev pub recast : {F G : Type 0} → (F → G) → Verdict F → Verdict G
recast words (Ok _) = Ok tt
recast words (Err fault) = Err (words fault)

-- the fault with its place
abbrev pub found_in : {P F : Type 0} → P → Verdict F → Verdict (Found P F)
found_in place verdict = recast (λ fault. record { place = place; fault = fault }) verdict

-- one test, then another: the first fault counts
abbrev pub before : {F : Type 0} → Verdict F → Verdict F → Verdict F
before (Ok _) later = later
before (Err fault) later = Err fault

-- accepted where a test holds
abbrev pub verdict_of : {F : Type 0} → Bool → F → Verdict F
verdict_of holds fault = cond holds (Ok tt) (Err fault)

-- whether it accepts
abbrev pub accepts : {F : Type 0} → Verdict F → Bool
accepts (Ok _) = true
accepts (Err fault) = false

-- the first fault among n numbers from i on
unfoldable pub count_up : {F : Type 0} → (ℕ → Verdict F) → ℕ → ℕ → Verdict F
count_up test zero i = Ok tt
count_up test (suc n) i = before (test i) (count_up test n (i + 1))
