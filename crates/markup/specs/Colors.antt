-- Colours in hexadecimal: a number sign and two small digits each for red, green and blue.
use Rattle.std.specs.Prelude.{ℕ, ◌+◌, ◌-◌, ◌/◌, ◌%◌, cond, List, [], ◌∷◌, nat_lt}

abbrev pub hex_digit : ℕ → ℕ
hex_digit d = cond (nat_lt d 10) (48 + d) (97 + (d - 10))

abbrev pub hex_color : ℕ → ℕ → ℕ → List ℕ
hex_color red green blue =
    35 ∷ hex_digit (red / 16) ∷ hex_digit (red % 16)
    ∷ hex_digit (green / 16) ∷ hex_digit (green % 16)
    ∷ hex_digit (blue / 16) ∷ hex_digit (blue % 16) ∷ []
