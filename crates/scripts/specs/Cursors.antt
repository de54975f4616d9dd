-- The words of a line that are still to be read.
use Rattle.std.specs.Prelude.{◌≡◌, ℕ, ◌<◌, List, ◌∷◌, length, map}
use Rattle.scripts.specs.declared.cursors.Words.{Words}

abbrev pub left : Words → List (List ℕ)
left words = map (λ v. v.items) words.rest.now

-- a word was taken
abbrev pub Takes : Words → List ℕ → Words → Type 0
Takes before word after = left before ≡ word ∷ left after

-- at least one word was taken
abbrev pub FewerLeft : Words → Words → Type 0
FewerLeft before after = length (left after) < length (left before)
