-- Renderings one after the other.
use Rattle.std.proofs.Common.{◌≡◌, ℕ, Bool, true, false, List, [], ◌∷◌, ◌++◌, refl, ap}
use mathlib.Core.Bool.{false≢true}
use Rattle.std.proofs.lemmas.List.{append_assoc}
use Rattle.markup.specs.Attributes.{Attribute, attributes_then}
use Rattle.markup.specs.Trees.{Forest, empty, character, element, Written, is_empty, followed_by}
use Rattle.markup.specs.Renderings.{tag_end, render}
use Rattle.markup.proofs.Written.{attributes_rest}

pub attributes_more : (ps : List Attribute) (x y : List ℕ) → attributes_then ps (x ++ y) ≡ attributes_then ps x ++ y
attributes_more ps x y = rw (attributes_rest ps (x ++ y), attributes_rest ps x, append_assoc)

pub render_rest : (m : Written) (rest : List ℕ) → render m rest ≡ render m [] ++ rest
render_rest empty rest = refl
render_rest (character c m) rest = rw (render_rest m rest, append_assoc)
render_rest (element n ps k m) rest =
    let end = tag_end (is_empty k) (render m []) (render k (60 ∷ 47 ∷ (n ++ 62 ∷ render m []))) in
    rw (render_rest m rest, go (λ x. render_rest k x) (is_empty k) (render m []), attributes_more ps end rest, append_assoc n (attributes_then ps end) rest)
  where
    go : ((x : List ℕ) → render k x ≡ render k [] ++ x) → (b : Bool) (z : List ℕ) → tag_end b (z ++ rest) (render k (60 ∷ 47 ∷ (n ++ 62 ∷ (z ++ rest)))) ≡ tag_end b z (render k (60 ∷ 47 ∷ (n ++ 62 ∷ z))) ++ rest
    go more true z = refl
    go more false z = rw (more (60 ∷ 47 ∷ (n ++ 62 ∷ (z ++ rest))), more (60 ∷ 47 ∷ (n ++ 62 ∷ z)), append_assoc (render k []) (60 ∷ 47 ∷ (n ++ 62 ∷ z)) rest, append_assoc n (62 ∷ z) rest)

-- one forest and then another
pub render_followed : (a b : Written) (rest : List ℕ) → render (followed_by a b) rest ≡ render a (render b rest)
render_followed empty b rest = refl
render_followed (character c a) b rest = rw (render_followed a b rest)
render_followed (element n ps k a) b rest = rw (render_followed a b rest)

pub render_both : (a b : Written) → render (followed_by a b) [] ≡ render a [] ++ render b []
render_both a b = rw (render_followed a b [], render_rest a (render b []))

pub followed_by_nothing : {A : Type 0} (a : Forest A) → followed_by a empty ≡ a
followed_by_nothing empty = refl
followed_by_nothing (character c a) = ap (character c) (followed_by_nothing a)
followed_by_nothing (element n ps k a) = ap (element n ps k) (followed_by_nothing a)

pub followed_by_some : {A : Type 0} (a b : Forest A) → is_empty b ≡ false → is_empty (followed_by a b) ≡ false
followed_by_some empty b h = h
followed_by_some (character c a) b h = refl
followed_by_some (element n ps k a) b h = refl

pub empty_is : {A : Type 0} (a : Forest A) → is_empty a ≡ true → a ≡ empty
empty_is empty h = refl
empty_is (character c a) h = absurd (false≢true h)
empty_is (element n ps k a) h = absurd (false≢true h)
