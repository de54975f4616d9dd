-- Lists of numbers and lengths. Between two stand white space and at most one comma (comma-wsp of SVG); both may be missing
-- where the numbers part by themselves, as in 10-5 and 1.5.5. There is at least one number.
use Rattle.std.specs.Prelude.{ℕ, cond, List, [], ◌∷◌, length, Some, None, Option, ◌==◌}
use Rattle.svg.specs.Values.{Value, numbers, offsets, ReadNumber}
use Rattle.svg.specs.Texts.{skip_white, then, only_if, Taken, repeated}
use Rattle.svg.specs.Numbers.{take_number, unit_in, after_unit, is_pixels, read_number}

-- the text behind a separator; behind a comma something has to follow
abbrev pub something : List ℕ → Option (List ℕ)
something [] = None
something (c ∷ cs) = Some (c ∷ cs)

abbrev pub after_comma : List ℕ → Option (List ℕ)
after_comma [] = Some []
after_comma (c ∷ cs) = cond (c == 44) (something (skip_white cs)) (Some (c ∷ cs))

abbrev pub after_separator : List ℕ → Option (List ℕ)
after_separator t = after_comma (skip_white t)

abbrev pub with_rest : {X : Type 0} → X → Option (List ℕ) → Taken X
with_rest x None = None
with_rest x (Some rest) = Some (x, rest)

-- a number with the separator behind it
abbrev pub number_item : List ℕ → Taken ReadNumber
number_item t = then (take_number t) (λ n. with_rest (read_number n.0) (after_separator n.1))

-- the same, perhaps with the unit px; what lengths with other units come to is not told here, so a list with one is not read
abbrev pub length_item : List ℕ → Taken ReadNumber
length_item t = then (take_number t) (λ n. only_if (is_pixels (unit_in n.1)) (with_rest (read_number n.0) (after_separator (after_unit n.1))))

abbrev pub at_least_one : {X : Type 0} → List X → Option (List X)
at_least_one [] = None
at_least_one (x ∷ xs) = Some (x ∷ xs)

abbrev pub items_of : {X : Type 0} → (List ℕ → Taken X) → List ℕ → Option (List X)
items_of item t = repeated item (length t) (skip_white t)

abbrev pub list_of_numbers : List ℕ → Option (List ReadNumber)
list_of_numbers t = then (items_of number_item t) at_least_one

abbrev pub list_of_lengths : List ℕ → Option (List ReadNumber)
list_of_lengths t = then (items_of length_item t) at_least_one

-- dx, dy, rotate; and the lengths of dashes
abbrev pub an_offset_list : List ℕ → Option (Value ReadNumber)
an_offset_list t = then (list_of_lengths t) (λ xs. Some (offsets xs))

abbrev pub dash_lengths : List ℕ → Option (Value ReadNumber)
dash_lengths t = then (list_of_lengths t) (λ xs. Some (numbers xs))
