-- Colours of a script.
use Rattle.std.specs.Prelude.{ℕ, cond, List, length, Some, None, Option, ◌==◌, slice_index}
use Rattle.drawing.specs.declared.rows.Color.{Color}
use Rattle.scripts.specs.Numbers.{hex_byte}

abbrev pub color_of : Option ℕ → Option ℕ → Option ℕ → Option Color
color_of None green blue = None
color_of (Some r) None blue = None
color_of (Some r) (Some g) None = None
color_of (Some r) (Some g) (Some b) = Some (record { red = r; green = g; blue = b })

-- `#` and six hexadecimal digits: two for red, two for green and two for blue
abbrev pub color_said : List ℕ → Option Color
color_said w =
    cond (length w == 7)
    (cond (slice_index w 0 == 35)
    (color_of (hex_byte (slice_index w 1) (slice_index w 2)) (hex_byte (slice_index w 3) (slice_index w 4)) (hex_byte (slice_index w 5) (slice_index w 6)))
    None)
    None
