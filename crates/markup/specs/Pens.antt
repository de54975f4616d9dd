-- What a pen has written: the bytes its store holds, how many it can hold, and whether a byte found no room.
use Rattle.std.specs.Prelude.{ℕ, ◌+◌, ◌-◌, Bool, true, false, cond, List, [], ◌∷◌, ◌++◌, length, take, nat_le, nat_lt}

pub record PenState : Type 0 where
  pub held : List ℕ
  pub capacity : ℕ
  pub lost : Bool

abbrev pub pen : List ℕ → ℕ → Bool → PenState
pen held capacity lost = record { held = held; capacity = capacity; lost = lost }

-- one byte: held where there is room, else lost
unfoldable pub step : PenState → ℕ → PenState
step s byte =
    cond (nat_lt (length s.held) s.capacity)
    (pen (s.held ++ byte ∷ []) s.capacity s.lost)
    (pen s.held s.capacity true)

-- bytes one after the other
abbrev pub after : PenState → List ℕ → PenState
after s [] = s
after s (byte ∷ bytes) = after (step s byte) bytes

-- parts one after the other, and as one text
abbrev pub afters : PenState → List (List ℕ) → PenState
afters s [] = s
afters s (part ∷ parts) = afters (after s part) parts

abbrev pub joined : List (List ℕ) → List ℕ
joined [] = []
joined (part ∷ parts) = part ++ joined parts

-- nothing was lost, and n more bytes would fit
abbrev pub fits : PenState → ℕ → Bool
fits s n = cond s.lost false (nat_le n (s.capacity - length s.held))

-- the end of a call: kept where n more bytes would fit, else cut back to the first m bytes; nothing counts as lost then
abbrev pub settled : PenState → ℕ → ℕ → PenState
settled s m n = cond (fits s n) s (pen (take m s.held) s.capacity false)

-- whether the bytes of a call fit, with n more after them, and nothing was lost before it
abbrev pub all_fit : PenState → List ℕ → ℕ → Bool
all_fit s bytes n = cond s.lost false (nat_le (length (s.held ++ bytes) + n) s.capacity)

-- a call: all of its bytes where they fit, else none of them; nothing counts as lost then
abbrev pub called : PenState → List ℕ → ℕ → PenState
called s bytes n = pen (cond (all_fit s bytes n) (s.held ++ bytes) s.held) s.capacity false
