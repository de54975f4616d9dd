-- Decimal texts: their plain syntax, the number that one says, and the f32 that one reads as. A text is a list of bytes.
use Rattle.std.specs.Prelude.{◌≡◌, ℕ, zero, suc, ◌+◌, ◌-◌, ◌*◌, ◌/◌, ◌%◌, ◌^◌, ◌<◌, Bool, true, false, cond, ◌⊎◌, List, [], ◌∷◌, ◌++◌, length, decimal, ◌==◌, slice_index_or, Float}
use Rattle.std.specs.Float.{binary32}
use Rattle.std.specs.Float.Ieee.{round}
use Rattle.std.specs.Int.{IsInRange}
use Rattle.std.specs.Fmt.{sign_text}
use Rattle.std.specs.Str.{all_ascii_digits}

-- ---- what a text says

-- the number that digits say, after a number n
abbrev pub said_after : ℕ → List ℕ → ℕ
said_after n [] = n
said_after n (c ∷ cs) = said_after (10 * n + (c - 48)) cs

abbrev pub said : List ℕ → ℕ
said ds = said_after 0 ds

-- whether a text begins with a minus (45), and the text after it
abbrev pub minus : List ℕ → Bool
minus [] = false
minus (c ∷ cs) = c == 45

abbrev pub after_minus : List ℕ → List ℕ
after_minus [] = []
after_minus (c ∷ cs) = cond (c == 45) cs (c ∷ cs)

-- a text without its point (46), and how many bytes stand behind the point
abbrev pub without_point : List ℕ → List ℕ
without_point [] = []
without_point (c ∷ cs) = let rest = without_point cs in cond (c == 46) rest (c ∷ rest)

abbrev pub behind_point : List ℕ → ℕ
behind_point [] = 0
behind_point (c ∷ cs) = cond (c == 46) (length cs) (behind_point cs)

-- the text says `units` / 10 ^ `places`, with the sign `minus`
abbrev pub units : List ℕ → ℕ
units bs = said (without_point (after_minus bs))

abbrev pub places : List ℕ → ℕ
places bs = behind_point (after_minus bs)

-- the f32 nearest to n / 10 ^ k, a tie to the even one; the sign is kept at zero
abbrev pub nearest_float : Bool → ℕ → ℕ → Float
nearest_float s n k = round binary32 s n (10 ^ k)

abbrev pub reads : List ℕ → Float
reads bs = nearest_float (minus bs) (units bs) (places bs)

-- ---- the plain syntax: an optional minus, digits with no needless zero in front, and perhaps a point and digits of which the last is not zero

abbrev pub after_point : List ℕ → List ℕ
after_point [] = []
after_point (c ∷ cs) = 46 ∷ (c ∷ cs)

pub record Plain (bs : List ℕ) : Type 0 where
  -- the parts: a minus or none, the digits before the point, and those behind it, if any
  pub negative : Bool
  pub whole : List ℕ
  pub fraction : List ℕ
  pub spelled : bs ≡ sign_text negative ++ (whole ++ after_point fraction)
  pub whole_digits : all_ascii_digits whole ≡ true
  pub fraction_digits : all_ascii_digits fraction ≡ true
  pub some_digit : 0 < length whole
  -- a zero in front stands alone, and none stands at the end behind a point
  pub front : slice_index_or whole 0 0 ≡ 48 → length whole ≡ 1
  pub back : slice_index_or fraction (length fraction - 1) 0 ≡ 48 → ⊥

-- the bytes that such a text can have: a minus, a point, a digit
abbrev pub NumberByte : ℕ → Type 0
NumberByte c = (c ≡ 45) ⊎ ((c ≡ 46) ⊎ IsInRange 48 57 c)

-- ---- the plain text of n / 10 ^ k

-- the last k digits of n
abbrev pub figures : ℕ → ℕ → List ℕ
figures zero n = []
figures (suc k) n = (48 + n / 10 ^ k % 10) ∷ figures k n

abbrev pub pointed : ℕ → ℕ → List ℕ
pointed zero n = []
pointed (suc k) n = 46 ∷ figures (suc k) n

abbrev pub spelling : Bool → ℕ → ℕ → List ℕ
spelling s n k = sign_text s ++ (decimal (n / 10 ^ k) ++ pointed k n)
