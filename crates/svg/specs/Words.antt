-- Keywords. A keyword of CSS is read in any letter case (ASCII), with white space around it, and where it is several words,
-- with any white space between them. A keyword of an attribute that is no property is read exactly as it is spelled.
use Rattle.std.specs.Prelude.{ℕ, cond, List, [], ◌∷◌, Some, None, codes, Option}
use Rattle.std.specs.Str.{bytes_eq}
use Rattle.svg.specs.Values.{Value, none, keyword, inherit, initial, unset, ReadNumber}
use Rattle.svg.specs.Properties.{Words}
use Rattle.svg.specs.Texts.{lowers, words, with_spaces}

-- the value that a table has for a text
abbrev pub Table : Type 0
Table = List (List ℕ × Value ReadNumber)

abbrev pub looked_up : Table → List ℕ → Option (Value ReadNumber)
looked_up [] t = None
looked_up (row ∷ rows) t = let others = looked_up rows t in cond (bytes_eq row.0 t) (Some row.1) others

-- the words of a text in lower case, with one space between each two
abbrev pub collapsed : List ℕ → List ℕ
collapsed t = with_spaces (words (lowers t))

abbrev pub from_table : Table → List ℕ → Option (Value ReadNumber)
from_table table t = looked_up table (collapsed t)

-- words that stand for keywords
abbrev pub meanings : Words → Table
meanings [] = []
meanings (w ∷ ws) = (w.0, keyword w.1) ∷ meanings ws

abbrev pub a_css_word : Words → List ℕ → Option (Value ReadNumber)
a_css_word ws t = from_table (meanings ws) t

abbrev pub an_exact_word : Words → List ℕ → Option (Value ReadNumber)
an_exact_word ws t = looked_up (meanings ws) t

-- what every property takes
abbrev pub wide_words : Table
wide_words = (codes "inherit", inherit) ∷ (codes "initial", initial) ∷ (codes "unset", unset) ∷ []

abbrev pub a_wide_word : List ℕ → Option (Value ReadNumber)
a_wide_word t = from_table wide_words t

-- the word none, where a property takes it
abbrev pub the_word_none : List ℕ → Option (Value ReadNumber)
the_word_none t = from_table ((codes "none", none) ∷ []) t
