-- Matrices as they are shown, and the one that is left out.
use Rattle.std.specs.Prelude.{ℕ, Bool, ◌&&◌, List, [], ◌∷◌, ◌++◌, codes, Float}
use Rattle.std.specs.Float.Ieee.{eq}
use Rattle.markup.specs.Numbers.{shown_rounded}
use Rattle.markup.specs.Lists.{joined_by}
use Rattle.markup.specs.declared.numbers.Rounded.{Rounded}
use Rattle.drawing.specs.declared.rows.Transform.{Transform}
use Rattle.drawing.specs.Tables.{nought, one}

abbrev pub matrix_text : ℕ → List Float → List ℕ
matrix_text precision numbers = codes "matrix(" ++ (joined_by (codes " ") (shown_rounded precision) numbers ++ codes ")")

-- the identity, in the order in which a matrix is shown
abbrev pub is_identity : Float → Float → Float → Float → Float → Float → Bool
is_identity sx ky kx sy tx ty = eq sx one && (eq ky nought && (eq kx nought && (eq sy one && (eq tx nought && eq ty nought))))

-- the numbers of a transform, in that order
abbrev pub numbers_of : Transform → List Float
numbers_of t = t.sx ∷ t.ky ∷ t.kx ∷ t.sy ∷ t.tx ∷ t.ty ∷ []

abbrev pub rounded_at : ℕ → Float → Rounded
rounded_at precision value = record { value = value; precision = precision }
