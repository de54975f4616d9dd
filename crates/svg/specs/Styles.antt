-- The style attribute: declarations of CSS with semicolons between them, each a name, a colon and a value. Names are taken in
-- lower case, and values without white space at their ends. In strings and brackets, and behind a backslash, a semicolon parts
-- nothing. A comment is a space, but in strings and brackets it is none. A declaration without a colon or a name is dropped.
-- What `!important` does is not told here: it stays in the value, which then is not read.
use Rattle.std.specs.Prelude.{ℕ, ◌+◌, ◌-◌, Bool, cond, not, ◌&&◌, List, [], ◌∷◌, ◌++◌, ◌==◌}
use Rattle.svg.specs.Texts.{lowers, in_name, taken, left, is_empty, every, trimmed}
use Rattle.svg.specs.Strings.{is_quote}

-- where in the text: outside of strings and comments, behind a backslash there, behind a slash that may begin a comment, in a
-- comment, behind a star that may end it, in a string with its quote, or behind a backslash in one
pub data Place : Type 0 where
  outside : Place
  escaped : Place
  slash : Place
  comment : Place
  star : Place
  string : ℕ → Place
  string_escape : ℕ → Place

-- what a character does: it adds characters to the declaration, and leads to a depth of brackets and a place; or it ends the
-- declaration, whose last characters these are
pub data Step : Type 0 where
  adds : List ℕ → ℕ → Place → Step
  parts : List ℕ → Step

abbrev pub outside_step : List ℕ → ℕ → ℕ → Step
outside_step before depth c =
    let all = before ++ (c ∷ []) in
    cond (is_quote c) (adds all depth (string c))
    (cond (c == 92) (adds all depth escaped)
    (cond (c == 40) (adds all (depth + 1) outside)
    (cond (c == 41) (adds all (depth - 1) outside)
    (cond (c == 59 && depth == 0) (parts before)
    (cond (c == 47 && depth == 0) (adds before depth slash)
    (adds all depth outside))))))

abbrev pub step : ℕ → Place → ℕ → Step
step depth outside c = outside_step [] depth c
step depth escaped c = adds (c ∷ []) depth outside
step depth slash c = cond (c == 42) (adds [] depth comment) (outside_step (47 ∷ []) depth c)
step depth comment c = adds [] depth (cond (c == 42) star comment)
step depth star c = cond (c == 47) (adds (32 ∷ []) depth outside) (adds [] depth (cond (c == 42) star comment))
step depth (string quote) c = adds (c ∷ []) depth (cond (c == quote) outside (cond (c == 92) (string_escape quote) (string quote)))
step depth (string_escape quote) c = adds (c ∷ []) depth (string quote)

abbrev pub onto_piece : List ℕ → List (List ℕ) → List (List ℕ)
onto_piece front [] = front ∷ []
onto_piece front (piece ∷ more) = (front ++ piece) ∷ more

abbrev pub stepped : Step → (ℕ → Place → List (List ℕ)) → List (List ℕ)
stepped (adds out depth place) next = onto_piece out (next depth place)
stepped (parts out) next = out ∷ next 0 outside

abbrev pub last_piece : Place → List ℕ
last_piece outside = []
last_piece escaped = []
last_piece slash = 47 ∷ []
last_piece comment = []
last_piece star = []
last_piece (string quote) = []
last_piece (string_escape quote) = []

-- the texts between semicolons, without comments
abbrev pub declaration_texts : ℕ → Place → List ℕ → List (List ℕ)
declaration_texts depth place [] = last_piece place ∷ []
declaration_texts depth place (c ∷ cs) = stepped (step depth place c) (λ d p. declaration_texts d p cs)

-- ---- a name and a value

abbrev pub no_colon : ℕ → Bool
no_colon c = not (c == 58)

abbrev pub is_name : List ℕ → Bool
is_name name = not (is_empty name) && every in_name name

-- a declaration before the others: its name, and its text from the colon on
abbrev pub declared : List ℕ → List ℕ → List (List ℕ × List ℕ) → List (List ℕ × List ℕ)
declared name [] others = others
declared name (colon ∷ value) others = cond (is_name name) ((lowers name, trimmed value) ∷ others) others

abbrev pub all_declared : List (List ℕ) → List (List ℕ × List ℕ)
all_declared [] = []
all_declared (t ∷ more) = declared (trimmed (taken no_colon t)) (left no_colon t) (all_declared more)

abbrev pub declarations : List ℕ → List (List ℕ × List ℕ)
declarations t = all_declared (declaration_texts 0 outside t)
