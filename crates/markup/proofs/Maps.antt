-- An array that `map` makes is the list that the function makes, where each call gives what the function does.
use Rattle.std.proofs.Common.{◌≡◌, ℕ, zero, suc, ◌+◌, List, length, map, drop, arith}
use Rattle.std.proofs.Math.Numerals.{add-one}
use Rattle.std.specs.Fn.{Mut, Called}
use Rattle.std.specs.Array.{IsMapOf, MapsFrom}
use Rattle.std.proofs.Math.Seq.{drop-cons}
use Rattle.std.proofs.Math.ListN.{drop_of_length-le}

module _ {F A B : Type 0} (g : Mut F (A × Unit {0}) B) (Holds : F → Type 0) (h : A → B) (each : (p : F) (x : A) (y : B) (q : F) → Holds p → Called g p (x, tt) y q → (y ≡ h x) × Holds q) where
  maps_from : (xs : List A) (ys : List B) (f : F) (i n : ℕ) → Holds f → MapsFrom g f xs ys i n → i + n ≡ length xs → length ys ≡ length xs → drop i ys ≡ map h (drop i xs)
  maps_from xs ys f i zero k m e l = rw (drop_of_length-le xs {i = i} (omega arith), drop_of_length-le ys {i = i} (omega arith))
  maps_from xs ys f i (suc n) k (q, x, y, at_x, at_y, called, more) e l =
      let r = each f x y q k called in
      let ih = maps_from xs ys q (i + 1) n r.1 more (omega arith) l in
      let u = drop-cons xs i x (omega arith) in
      let v = drop-cons ys i y (omega arith) in
      let o = add-one i in
      cc

  pub maps_all : (xs : List A) (ys : List B) (f : F) → Holds f → IsMapOf g f xs ys (length xs) → ys ≡ map h xs
  maps_all xs ys f k m = maps_from xs ys f 0 (length xs) k m.each (omega arith) m.long
