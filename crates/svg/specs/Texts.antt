-- What all grammars share: white space, letter case, digits, and characters taken off the front of a text.
-- A text is a list of characters, each its Unicode number.
use Rattle.std.specs.Prelude.{ℕ, zero, suc, ◌+◌, Bool, true, false, cond, not, ◌&&◌, ◌||◌, List, [], ◌∷◌, ◌++◌, Some, None, Option, ◌==◌, nat_le}

-- ---- characters

abbrev pub between : ℕ → ℕ → ℕ → Bool
between low high c = nat_le low c && nat_le c high

-- space, tab, line feed, form feed, carriage return: white space of CSS, and wsp of SVG
abbrev pub white : ℕ → Bool
white c = c == 32 || (c == 9 || (c == 10 || (c == 12 || c == 13)))

abbrev pub digit : ℕ → Bool
digit c = between 48 57 c

-- an ASCII letter in lower case
abbrev pub lower : ℕ → ℕ
lower c = cond (between 65 90 c) (c + 32) c

abbrev pub lowers : List ℕ → List ℕ
lowers [] = []
lowers (c ∷ cs) = lower c ∷ lowers cs

-- a character that begins a name of CSS: a letter, an underscore, or not ASCII
abbrev pub starts_name : ℕ → Bool
starts_name c = between 65 90 c || (between 97 122 c || (c == 95 || nat_le 128 c))

-- and one that goes on in it: also a digit or a hyphen
abbrev pub in_name : ℕ → Bool
in_name c = between 48 57 c || (c == 45 || starts_name c)

-- ---- the front of a text

-- the characters in front that pass a test, and what is left behind them
abbrev pub taken : (ℕ → Bool) → List ℕ → List ℕ
taken passes [] = []
taken passes (c ∷ cs) = let more = taken passes cs in cond (passes c) (c ∷ more) []

abbrev pub left : (ℕ → Bool) → List ℕ → List ℕ
left passes [] = []
left passes (c ∷ cs) = let more = left passes cs in cond (passes c) more (c ∷ cs)

abbrev pub skip_white : List ℕ → List ℕ
skip_white t = left white t

abbrev pub is_empty : List ℕ → Bool
is_empty [] = true
is_empty (c ∷ cs) = false

-- nothing is left but white space
abbrev pub at_end : List ℕ → Bool
at_end t = is_empty (skip_white t)

-- every character passes
abbrev pub every : (ℕ → Bool) → List ℕ → Bool
every passes [] = true
every passes (c ∷ cs) = passes c && every passes cs

-- the text behind a beginning: as it is spelled, or in any letter case
abbrev pub behind : List ℕ → List ℕ → Option (List ℕ)
behind [] t = Some t
behind (c ∷ cs) [] = None
behind (c ∷ cs) (d ∷ ds) = let more = behind cs ds in cond (c == d) more None

abbrev pub behind_word : List ℕ → List ℕ → Option (List ℕ)
behind_word [] t = Some t
behind_word (c ∷ cs) [] = None
behind_word (c ∷ cs) (d ∷ ds) = let more = behind_word cs ds in cond (c == lower d) more None

-- ---- a text taken apart

abbrev pub onto_first : ℕ → List (List ℕ) → List (List ℕ)
onto_first c [] = (c ∷ []) ∷ []
onto_first c (piece ∷ pieces) = (c ∷ piece) ∷ pieces

-- the pieces between characters that pass a test
abbrev pub pieces : (ℕ → Bool) → List ℕ → List (List ℕ)
pieces parts [] = [] ∷ []
pieces parts (c ∷ cs) = let more = pieces parts cs in cond (parts c) ([] ∷ more) (onto_first c more)

abbrev pub filled : List (List ℕ) → List (List ℕ)
filled [] = []
filled ([] ∷ pieces) = filled pieces
filled ((c ∷ cs) ∷ pieces) = (c ∷ cs) ∷ filled pieces

-- the words between white space, and words with one space between each two
abbrev pub words : List ℕ → List (List ℕ)
words t = filled (pieces white t)

abbrev pub further_words : List (List ℕ) → List ℕ
further_words [] = []
further_words (word ∷ more) = 32 ∷ (word ++ further_words more)

abbrev pub with_spaces : List (List ℕ) → List ℕ
with_spaces [] = []
with_spaces (word ∷ more) = word ++ further_words more

-- a text without white space at its ends
abbrev pub kept : ℕ → List ℕ → List ℕ
kept c [] = cond (white c) [] (c ∷ [])
kept c (d ∷ ds) = c ∷ d ∷ ds

abbrev pub without_last_white : List ℕ → List ℕ
without_last_white [] = []
without_last_white (c ∷ cs) = kept c (without_last_white cs)

abbrev pub trimmed : List ℕ → List ℕ
trimmed t = without_last_white (skip_white t)

-- ---- readings that may fail

abbrev pub then : {X Y : Type 0} → Option X → (X → Option Y) → Option Y
then None next = None
then (Some x) next = next x

-- the first reading that there is
abbrev pub or_else : {X : Type 0} → Option X → Option X → Option X
or_else None other = other
or_else (Some x) other = Some x

abbrev pub only_if : {X : Type 0} → Bool → Option X → Option X
only_if b reading = cond b reading None

-- what a reader takes off a text, and the text behind it
abbrev pub Taken : Type 0 → Type 0
Taken X = Option (X × List ℕ)

abbrev pub put_before : {X : Type 0} → X → Option (List X) → Option (List X)
put_before x None = None
put_before x (Some xs) = Some (x ∷ xs)

abbrev pub and_more : {X : Type 0} → Taken X → (List ℕ → Option (List X)) → Option (List X)
and_more None more = None
and_more (Some x) more = put_before x.0 (more x.1)

-- a reader used again and again until the text is used up; the number bounds how often, and a text's length always suffices
abbrev pub repeated : {X : Type 0} → (List ℕ → Taken X) → ℕ → List ℕ → Option (List X)
repeated reader n [] = Some []
repeated reader zero (c ∷ cs) = None
repeated reader (suc n) (c ∷ cs) = and_more (reader (c ∷ cs)) (λ rest. repeated reader n rest)

-- a text in brackets that ends in a closing one: what stands between, and what follows
abbrev pub closed : List ℕ → List ℕ → Taken (List ℕ)
closed inside [] = None
closed inside (c ∷ cs) = Some (inside, cs)

abbrev pub closing : ℕ → Bool
closing c = c == 41

abbrev pub to_bracket : List ℕ → Taken (List ℕ)
to_bracket t = closed (taken (λ c. not (closing c)) t) (left (λ c. not (closing c)) t)
