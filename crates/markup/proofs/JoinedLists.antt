-- A list that is joined, item by item.
use Rattle.std.proofs.Common.{◌≡◌, ℕ, ◌+◌, ◌<◌, List, [], ◌∷◌, ◌++◌, length, get_or, take}
use Rattle.std.proofs.lemmas.List.{append_assoc, append-nil, take_more}
use Rattle.markup.specs.Pens.{PenState}
use Rattle.markup.specs.Escapes.{after_escaped}
use Rattle.markup.specs.Lists.{further}
use Rattle.markup.proofs.Written.{escaped_three}

further_push : {X : Type 0} (separator : List ℕ) (shown : X → List ℕ) (xs : List X) (x : X) →
    further separator shown (xs ++ x ∷ []) ≡ further separator shown xs ++ (separator ++ shown x)
further_push separator shown [] x = rw append-nil
further_push separator shown (y ∷ xs) x = rw (further_push separator shown xs x, append_assoc, append_assoc)

-- the separator and one item more
pub further_written : {X : Type 0} (s : PenState) (f : ℕ → List ℕ) (separator : List ℕ) (shown : X → List ℕ) (xs : List X) (i : ℕ) (d : X) → i < length xs →
    after_escaped (after_escaped (after_escaped s f (further separator shown (take i xs))) f separator) f (shown (get_or xs i d))
    ≡ after_escaped s f (further separator shown (take (i + 1) xs))
further_written s f separator shown xs i d h =
    rw (escaped_three, take_more xs i d h, further_push)
