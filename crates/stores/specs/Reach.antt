-- How much of a buffer a store uses.
use Rattle.std.specs.Prelude.{ℕ, min, List, length}

-- the first 1,048,576 bytes, or all where there are fewer
abbrev pub reach : List ℕ → ℕ
reach buffer = min (length buffer) 1048576
