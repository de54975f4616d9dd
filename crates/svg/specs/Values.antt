-- The values of SVG's properties and attributes, and when a value that was read agrees with one that was given.
-- N is a number: as it was read, or as it was given.
use Rattle.std.specs.Prelude.{◌≡◌, ℕ, Bool, true, ◌&&◌, List, [], ◌∷◌, Float}
use Rattle.std.specs.Float.Ieee.{eq}
use Rattle.digits.specs.Rounded.{Close}
use Rattle.drawing.specs.Tables.{nought}

-- a family of a font-family list: a generic one, or a name
pub data Family : Type 0 where
  serif : Family
  sans_serif : Family
  cursive : Family
  fantasy : Family
  monospace : Family
  named : List ℕ → Family

-- a command of path data: its letter, and its numbers in order; repeated commands stand one by one
pub record Command (N : Type 0) : Type 0 where
  pub letter : ℕ
  pub numbers : List N

pub data Value (N : Type 0) : Type 0 where
  -- the keyword none, and what an element without the attribute has where it has no value at all
  none : Value N
  number : N → Value N
  -- a number with a unit other than px
  dimension : N → List ℕ → Value N
  -- a font weight
  weight : ℕ → Value N
  -- a dash list
  numbers : List N → Value N
  -- dx, dy and rotate
  offsets : List N → Value N
  -- a keyword, in the standard's spelling
  keyword : List ℕ → Value N
  color : ℕ → ℕ → ℕ → Value N
  -- an element of this document, by its id
  reference : List ℕ → Value N
  references : List (List ℕ) → Value N
  matrix : N → N → N → N → N → N → Value N
  families : List Family → Value N
  path : List (Command N) → Value N
  -- ids, namespaces, and links that leave the document
  text : List ℕ → Value N
  -- the keywords that every property takes
  inherit : Value N
  initial : Value N
  unset : Value N
  -- a text that the property does not take
  unread : Value N

-- ---- numbers

-- as read: said by a text, or left out, and then the absent value
pub data ReadNumber : Type 0 where
  said : Float → ReadNumber
  left_out : Float → ReadNumber

-- as given: bare, rounded at a precision, or not given, and then the absent value
pub data GivenNumber : Type 0 where
  bare : Float → GivenNumber
  rounded : ℕ → Float → GivenNumber
  not_given : Float → GivenNumber

-- A bare number that was written reads as the same float, a rounded one as a float close to it. A number that was left out
-- reads as the absent value, and equals the number given; zeros of either sign are equal.
abbrev pub Near : ReadNumber → GivenNumber → Type 0
Near (said y) (bare x) = y ≡ x
Near (said y) (rounded p x) = Close p x y
Near (said y) (not_given x) = ⊥
Near (left_out y) (bare x) = eq x y ≡ true
Near (left_out y) (rounded p x) = eq x y ≡ true
Near (left_out y) (not_given x) = y ≡ x

abbrev pub AllNear : List ReadNumber → List GivenNumber → Type 0
AllNear [] [] = Unit {0}
AllNear [] (x ∷ xs) = ⊥
AllNear (y ∷ ys) [] = ⊥
AllNear (y ∷ ys) (x ∷ xs) = Near y x × AllNear ys xs

-- commands agree letter by letter and number by number
abbrev pub AllAlike : List (Command ReadNumber) → List (Command GivenNumber) → Type 0
AllAlike [] [] = Unit {0}
AllAlike [] (c ∷ cs) = ⊥
AllAlike (b ∷ bs) [] = ⊥
AllAlike (b ∷ bs) (c ∷ cs) = (b.letter ≡ c.letter) × AllNear b.numbers c.numbers × AllAlike bs cs

-- lists of zeros alone
abbrev pub read_float : ReadNumber → Float
read_float (said y) = y
read_float (left_out y) = y

abbrev pub given_float : GivenNumber → Float
given_float (bare x) = x
given_float (rounded p x) = x
given_float (not_given x) = x

abbrev pub all_zero : List Float → Bool
all_zero [] = true
all_zero (x ∷ xs) = eq x nought && all_zero xs

abbrev pub floats : {N : Type 0} → (N → Float) → List N → List Float
floats f [] = []
floats f (x ∷ xs) = f x ∷ floats f xs

-- ---- agreement: a value as it was read, and one as it was given

pub data Agrees : Value ReadNumber → Value GivenNumber → Type 0 where
  both_none : Agrees none none
  near_numbers : {y : ReadNumber} {x : GivenNumber} → Near y x → Agrees (number y) (number x)
  same_weight : {n : ℕ} → Agrees (weight n) (weight n)
  near_lists : {ys : List ReadNumber} {xs : List GivenNumber} → AllNear ys xs → Agrees (numbers ys) (numbers xs)
  near_offsets : {ys : List ReadNumber} {xs : List GivenNumber} → AllNear ys xs → Agrees (offsets ys) (offsets xs)
  -- all lists of zeros agree, of whatever length, the empty one too
  zero_offsets : {ys : List ReadNumber} {xs : List GivenNumber} → all_zero (floats read_float ys) ≡ true → all_zero (floats given_float xs) ≡ true → Agrees (offsets ys) (offsets xs)
  same_keyword : {word : List ℕ} → Agrees (keyword word) (keyword word)
  same_color : {r g b : ℕ} → Agrees (color r g b) (color r g b)
  same_reference : {id : List ℕ} → Agrees (reference id) (reference id)
  same_references : {ids : List (List ℕ)} → Agrees (references ids) (references ids)
  near_matrices : {a b c d e f : ReadNumber} {u v w x y z : GivenNumber}
      → Near a u → Near b v → Near c w → Near d x → Near e y → Near f z → Agrees (matrix a b c d e f) (matrix u v w x y z)
  same_families : {fs : List Family} → Agrees (families fs) (families fs)
  same_path : {bs : List (Command ReadNumber)} {cs : List (Command GivenNumber)} → AllAlike bs cs → Agrees (path bs) (path cs)
  same_text : {t : List ℕ} → Agrees (text t) (text t)

-- ---- the same value with other numbers

abbrev pub over : {M N : Type 0} → (M → N) → List M → List N
over f [] = []
over f (x ∷ xs) = f x ∷ over f xs

abbrev pub commands : {M N : Type 0} → (M → N) → List (Command M) → List (Command N)
commands f [] = []
commands f (c ∷ cs) = record { letter = c.letter; numbers = over f c.numbers } ∷ commands f cs

abbrev pub with_numbers : {M N : Type 0} → (M → N) → Value M → Value N
with_numbers f none = none
with_numbers f (number x) = number (f x)
with_numbers f (dimension x unit) = dimension (f x) unit
with_numbers f (weight n) = weight n
with_numbers f (numbers xs) = numbers (over f xs)
with_numbers f (offsets xs) = offsets (over f xs)
with_numbers f (keyword word) = keyword word
with_numbers f (color r g b) = color r g b
with_numbers f (reference id) = reference id
with_numbers f (references ids) = references ids
with_numbers f (matrix u v w x y z) = matrix (f u) (f v) (f w) (f x) (f y) (f z)
with_numbers f (families fs) = families fs
with_numbers f (path cs) = path (commands f cs)
with_numbers f (text t) = text t
with_numbers f inherit = inherit
with_numbers f initial = initial
with_numbers f unset = unset
with_numbers f unread = unread
