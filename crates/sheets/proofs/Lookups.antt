-- A case that was found, or none where none has the word.
use Rattle.std.proofs.Common.{◌≡◌, ℕ, ◌<◌, ◌≢◌, List, length, Some, None, Option, MatchOption, arith}
use Rattle.std.specs.List.{AllWithin, HoldsAt}
use Rattle.sheets.specs.Lookups.{Named}

pub named_is : {K : Type 0} (spelled : K → List ℕ) (cases : List K) (word : List ℕ) (r : Option K) → MatchOption r (AllWithin (λ d. spelled d ≢ word) cases 0 (length cases)) (λ x. (spelled x ≡ word) × (i : ℕ) × (i < length cases) × HoldsAt (λ y. y ≡ x) cases i × AllWithin (λ d. spelled d ≢ word) cases 0 i) → Named spelled cases word r
named_is spelled cases word None found = λ k below d. found k d (omega arith) below
named_is spelled cases word (Some x) found = found.0
