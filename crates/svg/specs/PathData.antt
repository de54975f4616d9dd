-- Path data: the grammar of SVG 2, chapter 9. Commands with their numbers; a command that is repeated may leave out its letter,
-- and further pairs behind a moveto are linetos. Between numbers stand white space and at most one comma, or nothing where they
-- part by themselves; the two flags of an arc are single digits. The first command is a moveto.
-- The whole text is read or none of it: how far an erroneous path is drawn is not told here.
use Rattle.std.specs.Prelude.{ℕ, zero, suc, false, cond, ◌||◌, List, [], ◌∷◌, length, Some, None, codes, Option, ◌==◌}
use Rattle.svg.specs.Values.{Value, path, Command, ReadNumber}
use Rattle.svg.specs.Texts.{lower, skip_white, then, or_else, only_if, Taken, put_before}
use Rattle.svg.specs.Numbers.{take_number, read_number}
use Rattle.svg.specs.Lists.{after_comma, after_separator}
use Rattle.svg.specs.Words.{from_table}

-- ---- the numbers behind a letter

pub data Parameter : Type 0 where
  coordinate : Parameter
  flag : Parameter

-- what a letter takes, in either case; other characters are no letters of commands
abbrev pub pair : List Parameter
pair = coordinate ∷ coordinate ∷ []

abbrev pub parameters_of : ℕ → Option (List Parameter)
parameters_of letter =
    let l = lower letter in
    cond (l == 109 || (l == 108 || l == 116)) (Some pair)
    (cond (l == 122) (Some [])
    (cond (l == 104 || l == 118) (Some (coordinate ∷ []))
    (cond (l == 99) (Some (coordinate ∷ coordinate ∷ coordinate ∷ coordinate ∷ pair))
    (cond (l == 115 || l == 113) (Some (coordinate ∷ coordinate ∷ pair))
    (cond (l == 97) (Some (coordinate ∷ coordinate ∷ coordinate ∷ flag ∷ flag ∷ pair))
    None)))))

abbrev pub flag_number : ℕ → ReadNumber
flag_number c = read_number (record { minus = false; whole = c ∷ []; fraction = []; downwards = false; exponent = [] })

abbrev pub take_flag : List ℕ → Taken ReadNumber
take_flag [] = None
take_flag (c ∷ cs) = only_if (c == 48 || c == 49) (Some (flag_number c, cs))

abbrev pub take_parameter : Parameter → List ℕ → Taken ReadNumber
take_parameter coordinate t = then (take_number t) (λ n. Some (read_number n.0, n.1))
take_parameter flag t = take_flag t

abbrev pub with_first : ReadNumber → Taken (List ReadNumber) → Taken (List ReadNumber)
with_first x None = None
with_first x (Some xs) = Some (x ∷ xs.0, xs.1)

-- each of the further ones with a separator before it
abbrev pub take_further : List Parameter → List ℕ → Taken (List ReadNumber)
take_further [] t = Some ([], t)
take_further (p ∷ ps) t = then (after_separator t) (λ u. then (take_parameter p u) (λ x. with_first x.0 (take_further ps x.1)))

abbrev pub take_parameters : List Parameter → List ℕ → Taken (List ReadNumber)
take_parameters [] t = Some ([], t)
take_parameters (p ∷ ps) t = then (take_parameter p t) (λ x. with_first x.0 (take_further ps x.1))

-- ---- commands

abbrev pub take_command : ℕ → List Parameter → List ℕ → Taken (Command ReadNumber)
take_command letter ps t = then (take_parameters ps t) (λ xs. Some (record { letter = letter; numbers = xs.0 }, skip_white xs.1))

-- the letter that may be left out behind a command: that command's, but behind a moveto a lineto's, and behind a closepath none
abbrev pub letter_behind : ℕ → ℕ
letter_behind last = cond (last == 77) 76 (cond (last == 109) 108 last)

abbrev pub some_parameters : List Parameter → Option (List Parameter)
some_parameters [] = None
some_parameters (p ∷ ps) = Some (p ∷ ps)

abbrev pub unlettered : ℕ → List ℕ → Taken (Command ReadNumber)
unlettered last t = then (then (parameters_of last) some_parameters) (λ ps. then (after_comma t) (λ u. take_command (letter_behind last) ps u))

abbrev pub by_letter : Option (List Parameter) → ℕ → ℕ → List ℕ → Taken (Command ReadNumber)
by_letter None last c cs = unlettered last (c ∷ cs)
by_letter (Some ps) last c cs = take_command c ps (skip_white cs)

-- the commands behind one with the letter `last`; the number bounds how many
abbrev pub command_and_more : Taken (Command ReadNumber) → (ℕ → List ℕ → Option (List (Command ReadNumber))) → Option (List (Command ReadNumber))
command_and_more None more = None
command_and_more (Some x) more = put_before x.0 (more x.0.letter x.1)

abbrev pub commands_behind : ℕ → ℕ → List ℕ → Option (List (Command ReadNumber))
commands_behind last n [] = Some []
commands_behind last zero (c ∷ cs) = None
commands_behind last (suc n) (c ∷ cs) = command_and_more (by_letter (parameters_of c) last c cs) (λ letter rest. commands_behind letter n rest)

-- the first one has a letter, M or m; in place of a letter before it stands 0
abbrev pub whole_path : List ℕ → Option (Value ReadNumber)
whole_path [] = Some (path [])
whole_path (c ∷ cs) = only_if (c == 77 || c == 109) (then (commands_behind 0 (length (c ∷ cs)) (c ∷ cs)) (λ all. Some (path all)))

abbrev pub a_path : List ℕ → Option (Value ReadNumber)
a_path t = or_else (whole_path (skip_white t)) (from_table ((codes "none", path []) ∷ []) t)
