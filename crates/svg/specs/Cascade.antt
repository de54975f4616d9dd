-- The cascade: an element's own value of a property; else its parent's where the property inherits; else the absent value.
use Rattle.std.specs.Prelude.{ℕ, cond, List, [], ◌∷◌}
use Rattle.std.specs.Str.{bytes_eq}
use Rattle.markup.specs.Trees.{Forest, empty, character, element}
use Rattle.svg.specs.Values.{Value, none, number, dimension, weight, numbers, offsets, keyword, color, reference, references, matrix, families, path, text, inherit, initial, unset, unread}
use Rattle.svg.specs.Properties.{inherits}

-- what an element is given: names of properties and attributes with their values. Of two with one name the first counts
abbrev pub Given : Type 0 → Type 0
Given N = List (List ℕ × Value N)

-- a value for every name
abbrev pub Values : Type 0 → Type 0
Values N = List ℕ → Value N

-- what a keyword of CSS stands for that every property takes; any other value stands for itself
abbrev pub resolved : {N : Type 0} → Value N → Value N → Value N → Value N → Value N
resolved parent absent otherwise inherit = parent
resolved parent absent otherwise initial = absent
resolved parent absent otherwise unset = otherwise
resolved parent absent otherwise none = none
resolved parent absent otherwise (number x) = number x
resolved parent absent otherwise (dimension x unit) = dimension x unit
resolved parent absent otherwise (weight n) = weight n
resolved parent absent otherwise (numbers xs) = numbers xs
resolved parent absent otherwise (offsets xs) = offsets xs
resolved parent absent otherwise (keyword word) = keyword word
resolved parent absent otherwise (color r g b) = color r g b
resolved parent absent otherwise (reference id) = reference id
resolved parent absent otherwise (references ids) = references ids
resolved parent absent otherwise (matrix u v w x y z) = matrix u v w x y z
resolved parent absent otherwise (families fs) = families fs
resolved parent absent otherwise (path cs) = path cs
resolved parent absent otherwise (text t) = text t
resolved parent absent otherwise unread = unread

-- what an element has that is not given a property: its parent's value where it inherits, else the absent one
abbrev pub passed_on : {N : Type 0} → Values N → Values N → Values N
passed_on absent parent name = cond (inherits name) (parent name) (absent name)

abbrev pub looked_up : {N : Type 0} → Values N → Values N → List ℕ → Given N → Value N
looked_up absent parent name [] = passed_on absent parent name
looked_up absent parent name (g ∷ given) =
    cond (bytes_eq name g.0)
    (resolved (parent name) (absent name) (passed_on absent parent name) g.1)
    (looked_up absent parent name given)

-- the values of an element, from its parent's
abbrev pub own : {N : Type 0} → Values N → Values N → Given N → Values N
own absent parent given name = looked_up absent parent name given

-- the values of every element of a forest
abbrev pub cascade : {N : Type 0} → Values N → Values N → Forest (Given N) → Forest (Values N)
cascade absent parent empty = empty
cascade absent parent (character c more) = character c (cascade absent parent more)
cascade absent parent (element name given children more) =
    element name (own absent parent given) (cascade absent (own absent parent given) children) (cascade absent parent more)
