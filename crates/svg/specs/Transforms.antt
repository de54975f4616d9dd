-- Transform lists. An empty list is the identity. Of the others only a single matrix(..), translate(..) or scale(..) is read,
-- whose matrix has the very numbers of the text; rotate(..), skewX(..), skewY(..) and products of several transforms are
-- valid too, but their matrices are not computed here, and they are not read.
use Rattle.std.specs.Prelude.{ℕ, List, [], ◌∷◌, Some, None, codes, Option}
use Rattle.drawing.specs.Tables.{nought, one}
use Rattle.svg.specs.Values.{Value, matrix, ReadNumber, said}
use Rattle.svg.specs.Texts.{skip_white, at_end, behind, then, or_else, only_if, to_bracket}
use Rattle.svg.specs.Lists.{list_of_numbers}

abbrev pub identity : Value ReadNumber
identity = matrix (said one) (said nought) (said nought) (said one) (said nought) (said nought)

abbrev pub from_six : List ReadNumber → Option (Value ReadNumber)
from_six [] = None
from_six (a ∷ []) = None
from_six (a ∷ b ∷ []) = None
from_six (a ∷ b ∷ c ∷ []) = None
from_six (a ∷ b ∷ c ∷ d ∷ []) = None
from_six (a ∷ b ∷ c ∷ d ∷ e ∷ []) = None
from_six (a ∷ b ∷ c ∷ d ∷ e ∷ f ∷ []) = Some (matrix a b c d e f)
from_six (a ∷ b ∷ c ∷ d ∷ e ∷ f ∷ g ∷ more) = None

-- a missing y is 0
abbrev pub from_shift : List ReadNumber → Option (Value ReadNumber)
from_shift [] = None
from_shift (x ∷ []) = Some (matrix (said one) (said nought) (said nought) (said one) x (said nought))
from_shift (x ∷ y ∷ []) = Some (matrix (said one) (said nought) (said nought) (said one) x y)
from_shift (x ∷ y ∷ z ∷ more) = None

-- a missing y is the x
abbrev pub from_scale : List ReadNumber → Option (Value ReadNumber)
from_scale [] = None
from_scale (x ∷ []) = Some (matrix x (said nought) (said nought) x (said nought) (said nought))
from_scale (x ∷ y ∷ []) = Some (matrix x (said nought) (said nought) y (said nought) (said nought))
from_scale (x ∷ y ∷ z ∷ more) = None

-- a transform of one kind: its name, white space, numbers in brackets, and nothing behind them
abbrev pub one_transform : List ℕ → (List ReadNumber → Option (Value ReadNumber)) → List ℕ → Option (Value ReadNumber)
one_transform name made t =
    then (behind name t) (λ u. then (behind (codes "(") (skip_white u)) (λ v. then (to_bracket v) (λ inner. only_if (at_end inner.1) (then (list_of_numbers inner.0) made))))

abbrev pub no_transform : List ℕ → Option (Value ReadNumber)
no_transform t = only_if (at_end t) (Some identity)

abbrev pub transforms : List ℕ → Option (Value ReadNumber)
transforms t =
    or_else (one_transform (codes "matrix") from_six t)
    (or_else (one_transform (codes "translate") from_shift t)
    (or_else (one_transform (codes "scale") from_scale t)
    (no_transform t)))

abbrev pub a_transform_list : List ℕ → Option (Value ReadNumber)
a_transform_list t = transforms (skip_white t)
