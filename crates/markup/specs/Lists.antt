-- Lists joined by a separator.
use Rattle.std.specs.Prelude.{ℕ, List, [], ◌∷◌, ◌++◌}

-- each further one with the separator before it
abbrev pub further : {X : Type 0} → List ℕ → (X → List ℕ) → List X → List ℕ
further separator shown [] = []
further separator shown (x ∷ xs) = separator ++ (shown x ++ further separator shown xs)

abbrev pub joined_by : {X : Type 0} → List ℕ → (X → List ℕ) → List X → List ℕ
joined_by separator shown [] = []
joined_by separator shown (x ∷ xs) = shown x ++ further separator shown xs
