-- Looking a word up among the cases of an enum.
use Rattle.std.specs.Prelude.{◌≡◌, ℕ, ◌<◌, List, length, Option, MatchOption, ◌≢◌, slice_index_or}

-- none of the first `count` cases has the word
abbrev pub Unnamed : {K : Type 0} → (K → List ℕ) → List K → ℕ → List ℕ → Type 0
Unnamed {K} spelled cases count word = (k : ℕ) → k < count → (d : K) → spelled (slice_index_or cases k d) ≢ word

-- a case that has the word, or none where no case has it
abbrev pub Named : {K : Type 0} → (K → List ℕ) → List K → List ℕ → Option K → Type 0
Named spelled cases word answer =
    MatchOption answer (Unnamed spelled cases (length cases) word) (λ case. spelled case ≡ word)
