-- The bytes of tags.
use Rattle.std.specs.Prelude.{ℕ, List, [], ◌∷◌, ◌++◌, codes}
use Rattle.markup.specs.Escapes.{text_then}

-- a start tag as it begins
abbrev pub begun : List ℕ → List ℕ
begun name = codes "<" ++ name

abbrev pub end_tag : List ℕ → List ℕ
end_tag name = codes "</" ++ (name ++ codes ">")

-- a text as first content; an empty one is none
abbrev pub first_text : List ℕ → List ℕ
first_text [] = []
first_text (c ∷ cs) = codes ">" ++ text_then (c ∷ cs) []
