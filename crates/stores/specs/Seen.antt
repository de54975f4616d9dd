-- A store over a buffer, as its callers see it.
use Rattle.std.specs.Prelude.{ℕ, ◌+◌, ◌-◌, ◌≤◌, List, [], length, take}
use Rattle.std.proofs.Common.{arith}

-- the bytes held, how many more there is room for, and what lies past the store's reach
pub record Seen : Type 0 where
  pub held : List ℕ
  pub room : ℕ
  pub beyond : List ℕ

abbrev pub size_of : Seen → ℕ
size_of s = length s.held + s.room

abbrev pub seen_empty : ℕ → List ℕ → Seen
seen_empty size beyond = record { held = []; room = size; beyond = beyond }

-- the same store with another text in it
abbrev pub seen_with : Seen → List ℕ → Seen
seen_with s held = record { held = held; room = size_of s - length held; beyond = s.beyond }

-- a text without its last byte
abbrev pub front : List ℕ → List ℕ
front held = take (length held - 1) held

pub seen_within : (s : Seen) → length s.held ≤ size_of s
seen_within s = omega arith
