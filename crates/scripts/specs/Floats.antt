-- The bits of floats.
use Rattle.std.specs.Prelude.{ℕ, ◌/◌, ◌%◌, Bool, not, ◌&&◌, ◌==◌}

-- every bit of the exponent is set, and some bit of the fraction
abbrev pub nan_pattern : ℕ → Bool
nan_pattern bits = bits % 2147483648 / 8388608 == 255 && not (bits % 8388608 == 0)
