-- The image of a page in its buffer: the bytes held, zeros up to the page's size, and what lies beyond.
use Rattle.std.specs.Prelude.{◌≡◌, ℕ, ◌-◌, ◌≤◌, List, ◌++◌, length, take, drop, replicate}
use Rattle.std.proofs.Common.{arith, length-take}
use Rattle.stores.specs.Reach.{reach}

abbrev pub zeros : ℕ → List ℕ
zeros n = replicate n 0

abbrev pub page_image : ℕ → List ℕ → List ℕ → List ℕ
page_image size held beyond = held ++ (zeros (size - length held) ++ beyond)

-- what is true of every page's fields
pub record IsPage (size len : ℕ) (buffer : List ℕ) : Type 0 where
  pub sized : size ≡ reach buffer
  pub fits : len ≤ size
  pub blank : drop len buffer ≡ zeros (size - len) ++ drop size buffer

-- the first n bytes are at most n
pub taken_within : (n m : ℕ) (xs : List ℕ) → n ≤ m → length (take n xs) ≤ m
taken_within n m xs l = rw length-take (omega arith)
