-- Strings of CSS: characters between two quotes of one kind. A backslash with up to six hexadecimal digits, and one white space
-- behind them, stands for the character of that number; with a line end it stands for nothing; with any other character for
-- that character. A line end as it is breaks a string, and so does the end of the text.
use Rattle.std.specs.Prelude.{ℕ, ◌+◌, ◌*◌, Bool, cond, not, ◌&&◌, ◌||◌, List, [], ◌∷◌, ◌++◌, Some, None, ◌==◌, nat_lt}
use Rattle.std.proofs.Math.Utf8.{scalar}
use Rattle.svg.specs.Texts.{white, Taken}
use Rattle.svg.specs.Colors.{is_hex, hex_value}

abbrev pub is_quote : ℕ → Bool
is_quote c = c == 34 || c == 39

abbrev pub line_end : ℕ → Bool
line_end c = c == 10 || (c == 12 || c == 13)

-- the character of a number; where there is none, the replacement character
abbrev pub character_of : ℕ → ℕ
character_of n = cond (not (n == 0) && scalar n) n 0xFFFD

-- where in a string: between characters, behind a backslash, or behind digits of an escape, with their number and count
pub data Mode : Type 0 where
  plain : Mode
  escape : Mode
  digits : ℕ → ℕ → Mode

-- what a character does: it ends the string, breaks it, or goes on; with the characters that come out
pub data Move : Type 0 where
  ends : List ℕ → Move
  breaks : Move
  goes_on : List ℕ → Mode → Move

abbrev pub plain_move : ℕ → List ℕ → ℕ → Move
plain_move quote before c =
    cond (c == quote) (ends before)
    (cond (line_end c) breaks
    (cond (c == 92) (goes_on before escape)
    (goes_on (before ++ (c ∷ [])) plain)))

abbrev pub move : ℕ → Mode → ℕ → Move
move quote plain c = plain_move quote [] c
move quote escape c =
    cond (line_end c) (goes_on [] plain)
    (cond (is_hex c) (goes_on [] (digits (hex_value c) 1))
    (goes_on (c ∷ []) plain))
move quote (digits n count) c =
    cond (is_hex c && nat_lt count 6) (goes_on [] (digits (16 * n + hex_value c) (count + 1)))
    (cond (white c) (goes_on (character_of n ∷ []) plain)
    (plain_move quote (character_of n ∷ []) c))

abbrev pub onto_string : List ℕ → Taken (List ℕ) → Taken (List ℕ)
onto_string front None = None
onto_string front (Some r) = Some (front ++ r.0, r.1)

abbrev pub moved : Move → List ℕ → (Mode → Taken (List ℕ)) → Taken (List ℕ)
moved (ends out) rest next = Some (out, rest)
moved breaks rest next = None
moved (goes_on out mode) rest next = onto_string out (next mode)

-- a string, from behind its opening quote
abbrev pub take_string : ℕ → Mode → List ℕ → Taken (List ℕ)
take_string quote mode [] = None
take_string quote mode (c ∷ cs) = moved (move quote mode c) cs (λ m. take_string quote m cs)
