-- Numbers and lengths: SVG 2 (number) and CSS Values (number, dimension, percentage). A number has an optional sign, digits,
-- perhaps a point with digits behind it, and perhaps an exponent; its value is the nearest f32, of two as near the even one.
-- Which numbers a property takes (as no negative width) is not tested here.
use Rattle.std.specs.Prelude.{ℕ, ◌+◌, ◌*◌, ◌^◌, Bool, false, cond, not, ◌&&◌, ◌||◌, List, [], ◌∷◌, length, Some, codes, Option, ◌==◌, Float}
use Rattle.std.specs.Float.{binary32}
use Rattle.std.specs.Float.Ieee.{round}
use Rattle.std.specs.Str.{bytes_eq}
use Rattle.digits.specs.Decimals.{said_after}
use Rattle.svg.specs.Values.{Value, number, dimension, ReadNumber, said}
use Rattle.svg.specs.Texts.{digit, lowers, starts_name, in_name, taken, left, skip_white, is_empty, at_end, then, only_if, Taken}

-- ---- a number as it is spelled

pub record Numeral : Type 0 where
  pub minus : Bool
  pub whole : List ℕ
  pub fraction : List ℕ
  -- the exponent's sign and digits, which may be missing
  pub downwards : Bool
  pub exponent : List ℕ

-- the number that digits say
abbrev pub count : List ℕ → ℕ
count digits = said_after 0 digits

-- its size as a fraction of two whole numbers
abbrev pub above : Numeral → ℕ
above n =
    let units = said_after (count n.whole) n.fraction in
    cond n.downwards units (units * 10 ^ count n.exponent)

abbrev pub below : Numeral → ℕ
below n =
    let places = length n.fraction in
    cond n.downwards (10 ^ (places + count n.exponent)) (10 ^ places)

abbrev pub float_of : Numeral → Float
float_of n = round binary32 n.minus (above n) (below n)

-- ---- the longest number in front of a text

abbrev pub has_minus : List ℕ → Bool
has_minus [] = false
has_minus (c ∷ cs) = c == 45

abbrev pub after_sign : List ℕ → List ℕ
after_sign [] = []
after_sign (c ∷ cs) = cond (c == 43 || c == 45) cs (c ∷ cs)

-- the digits behind a point; a point without digits is none
abbrev pub fraction_in : List ℕ → List ℕ
fraction_in [] = []
fraction_in (c ∷ cs) = cond (c == 46) (taken digit cs) []

abbrev pub after_fraction : List ℕ → List ℕ
after_fraction [] = []
after_fraction (c ∷ cs) = cond (c == 46 && not (is_empty (taken digit cs))) (left digit cs) (c ∷ cs)

-- the digits behind an e; an e without digits is none, so that 1em is a number and a unit
abbrev pub is_e : ℕ → Bool
is_e c = c == 101 || c == 69

abbrev pub exponent_in : List ℕ → List ℕ
exponent_in [] = []
exponent_in (c ∷ cs) = cond (is_e c) (taken digit (after_sign cs)) []

abbrev pub exponent_minus : List ℕ → Bool
exponent_minus [] = false
exponent_minus (c ∷ cs) = is_e c && has_minus cs

abbrev pub after_exponent : List ℕ → List ℕ
after_exponent [] = []
after_exponent (c ∷ cs) = cond (is_e c && not (is_empty (taken digit (after_sign cs)))) (left digit (after_sign cs)) (c ∷ cs)

abbrev pub with_exponent : Bool → List ℕ → List ℕ → List ℕ → Taken Numeral
with_exponent minus whole fraction rest =
    only_if (not (is_empty whole) || not (is_empty fraction)) (Some (
      record { minus = minus; whole = whole; fraction = fraction; downwards = exponent_minus rest; exponent = exponent_in rest },
      after_exponent rest,
    ))

abbrev pub with_fraction : Bool → List ℕ → List ℕ → Taken Numeral
with_fraction minus whole rest = with_exponent minus whole (fraction_in rest) (after_fraction rest)

abbrev pub unsigned : Bool → List ℕ → Taken Numeral
unsigned minus t = with_fraction minus (taken digit t) (left digit t)

abbrev pub take_number : List ℕ → Taken Numeral
take_number t = unsigned (has_minus t) (after_sign t)

-- ---- units, in any letter case

abbrev pub unit_in : List ℕ → List ℕ
unit_in [] = []
unit_in (c ∷ cs) = cond (c == 37) (37 ∷ []) (cond (starts_name c) (lowers (taken in_name (c ∷ cs))) [])

abbrev pub after_unit : List ℕ → List ℕ
after_unit [] = []
after_unit (c ∷ cs) = cond (c == 37) cs (cond (starts_name c) (left in_name (c ∷ cs)) (c ∷ cs))

abbrev pub is_one_of : List (List ℕ) → List ℕ → Bool
is_one_of [] t = false
is_one_of (word ∷ words) t = bytes_eq word t || is_one_of words t

abbrev pub known_units : List (List ℕ)
known_units =
    codes "%" ∷ codes "em" ∷ codes "ex" ∷ codes "ch" ∷ codes "rem" ∷ codes "vw" ∷ codes "vh" ∷ codes "vmin" ∷ codes "vmax"
    ∷ codes "in" ∷ codes "cm" ∷ codes "mm" ∷ codes "q" ∷ codes "pt" ∷ codes "pc" ∷ []

abbrev pub is_pixels : List ℕ → Bool
is_pixels unit = is_empty unit || bytes_eq unit (codes "px")

-- a number as it was read
abbrev pub read_number : Numeral → ReadNumber
read_number n = said (float_of n)

-- without a unit and with px it is a number, with another known unit a dimension
abbrev pub measured : Numeral → List ℕ → Option (Value ReadNumber)
measured n unit = cond (is_pixels unit) (Some (number (read_number n))) (only_if (is_one_of known_units unit) (Some (dimension (read_number n) unit)))

abbrev pub measured_to_end : Numeral × List ℕ → Option (Value ReadNumber)
measured_to_end n = only_if (at_end (after_unit n.1)) (measured n.0 (unit_in n.1))

-- a whole text, with white space around it
abbrev pub a_length : List ℕ → Option (Value ReadNumber)
a_length t = then (take_number (skip_white t)) measured_to_end
