-- The quoted form of bytes, in which every byte can be said: printable ASCII stands for itself, and all else is escaped.
use Rattle.std.specs.Prelude.{ℕ, ◌/◌, ◌%◌, Bool, cond, ◌&&◌, List, [], ◌∷◌, ◌++◌, Some, None, Option, ◌==◌, nat_le}
use Rattle.std.specs.List.{flat_map}
use Rattle.scripts.specs.Numbers.{hex_digit}

-- the letter of a short escape: \" \\ \n \r \t
abbrev pub short : ℕ → Option ℕ
short b =
    cond (b == 34) (Some 34)
    (cond (b == 92) (Some 92)
    (cond (b == 10) (Some 110)
    (cond (b == 13) (Some 114)
    (cond (b == 9) (Some 116) None))))

abbrev pub printable : ℕ → Bool
printable b = nat_le 32 b && nat_le b 126

-- \xHH
abbrev pub hexed : ℕ → List ℕ
hexed b = 92 ∷ 120 ∷ hex_digit (b / 16) ∷ hex_digit (b % 16) ∷ []

-- a byte without a short escape
abbrev pub plain : ℕ → List ℕ
plain b = cond (printable b) (b ∷ []) (hexed b)

abbrev pub escaped_by : Option ℕ → ℕ → List ℕ
escaped_by (Some letter) b = 92 ∷ letter ∷ []
escaped_by None b = plain b

-- a byte as it stands between the quotes
abbrev pub escaped : ℕ → List ℕ
escaped b = escaped_by (short b) b

abbrev pub quoted_form : List ℕ → List ℕ
quoted_form bs = 34 ∷ (flat_map escaped bs ++ 34 ∷ [])
