-- Decimal numbers and hexadecimal digits, as bytes say them.
use Rattle.std.specs.Prelude.{◌≡◌, ℕ, ◌+◌, ◌-◌, ◌*◌, ◌<◌, ◌≤◌, Bool, true, cond, ◌&&◌, List, [], ◌∷◌, length, Some, None, Option, MatchOption, nat_le, nat_lt}

abbrev pub digit : ℕ → Bool
digit b = nat_le 48 b && nat_le b 57

unfoldable pub digits : List ℕ → Bool
digits [] = true
digits (b ∷ bs) = digit b && digits bs

-- the value of decimal digits that follow others of a known value
unfoldable pub value_after : ℕ → List ℕ → ℕ
value_after before [] = before
value_after before (b ∷ bs) = value_after (before * 10 + (b - 48)) bs

abbrev pub value : List ℕ → ℕ
value bs = value_after 0 bs

-- some digits and nothing else
abbrev pub Numeral : List ℕ → Type 0
Numeral word = (0 < length word) × (digits word ≡ true)

-- a numeral of at most `most` gives its value, and any other word none
abbrev pub Said : List ℕ → ℕ → Option ℕ → Type 0
Said word most answer =
    MatchOption answer
    (Numeral word → most < value word)
    (λ n. Numeral word × (n ≡ value word) × (n ≤ most))

-- a hexadecimal digit in either case
abbrev pub hex_value : ℕ → Option ℕ
hex_value b =
    cond (nat_le 48 b && nat_le b 57) (Some (b - 48))
    (cond (nat_le 97 b && nat_le b 102) (Some (b - 97 + 10))
    (cond (nat_le 65 b && nat_le b 70) (Some (b - 65 + 10)) None))

-- the byte that two such digits say
abbrev pub joined_digits : Option ℕ → Option ℕ → Option ℕ
joined_digits None low = None
joined_digits (Some h) None = None
joined_digits (Some h) (Some l) = Some (h * 16 + l)

abbrev pub hex_byte : ℕ → ℕ → Option ℕ
hex_byte high low = joined_digits (hex_value high) (hex_value low)

-- the digit of a value below sixteen, in lower case
abbrev pub hex_digit : ℕ → ℕ
hex_digit n = cond (nat_lt n 10) (48 + n) (97 + (n - 10))
