-- What a store does, in terms of the bytes held before, the capacity, and the bytes held after.
use Rattle.std.specs.Prelude.{◌≡◌, ℕ, ◌<◌, ◌≤◌, List, [], ◌∷◌, ◌++◌, length, take, Option, Result, MatchOption, MatchResult, slice_index}

-- put: one byte more at the end; refused exactly when full, and then nothing changes
abbrev pub Put : {Refusal : Type 0} → List ℕ → ℕ → ℕ → List ℕ → Result (Unit {0}) Refusal → Type 0
Put before capacity byte after answer =
    MatchResult answer
    (λ _. (length before < capacity) × (after ≡ before ++ byte ∷ []))
    (λ _. (length before ≡ capacity) × (after ≡ before))

-- cut: the first bytes are kept; refused exactly when fewer are held, and then nothing changes
abbrev pub Cut : {Refusal : Type 0} → List ℕ → ℕ → List ℕ → Result (Unit {0}) Refusal → Type 0
Cut before count after answer =
    MatchResult answer
    (λ _. (count ≤ length before) × (after ≡ take count before))
    (λ _. (length before < count) × (after ≡ before))

-- the byte at a place, or none past the end
abbrev pub ByteAt : List ℕ → ℕ → Option ℕ → Type 0
ByteAt held place answer =
    MatchOption answer (length held ≤ place) (λ byte. (place < length held) × (byte ≡ slice_index held place))
