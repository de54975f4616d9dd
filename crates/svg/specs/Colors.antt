-- Colours: #rgb and #rrggbb, rgb(..) with three whole numbers or three percentages, and the 147 names of SVG 1.1.
-- Colours with an alpha (#rgba, #rrggbbaa, transparent) and the other functions of CSS Color 4 are not read here.
use Rattle.std.specs.Prelude.{ℕ, ◌+◌, ◌-◌, ◌*◌, ◌/◌, min, Bool, cond, ◌&&◌, ◌||◌, List, [], ◌∷◌, Some, None, codes, Option, nat_eq}
use Rattle.svg.specs.Values.{Value, color, keyword, ReadNumber}
use Rattle.svg.specs.Texts.{between, digit, taken, left, skip_white, is_empty, at_end, behind, behind_word, pieces, then, or_else, only_if, to_bracket}
use Rattle.svg.specs.Numbers.{Numeral, count, above, below, take_number}
use Rattle.svg.specs.Words.{Table, from_table}

-- ---- hexadecimal digits, in either letter case

abbrev pub is_hex : ℕ → Bool
is_hex c = digit c || (between 65 70 c || between 97 102 c)

abbrev pub hex_value : ℕ → ℕ
hex_value c = cond (digit c) (c - 48) (cond (between 65 70 c) (c - 55) (c - 87))

abbrev pub two_digits : ℕ → ℕ → ℕ
two_digits a b = 16 * hex_value a + hex_value b

-- with three digits each stands for two
abbrev pub from_digits : List ℕ → Option (Value ReadNumber)
from_digits [] = None
from_digits (a ∷ []) = None
from_digits (a ∷ b ∷ []) = None
from_digits (a ∷ b ∷ c ∷ []) = Some (color (two_digits a a) (two_digits b b) (two_digits c c))
from_digits (a ∷ b ∷ c ∷ d ∷ []) = None
from_digits (a ∷ b ∷ c ∷ d ∷ e ∷ []) = None
from_digits (a ∷ b ∷ c ∷ d ∷ e ∷ f ∷ []) = Some (color (two_digits a b) (two_digits c d) (two_digits e f))
from_digits (a ∷ b ∷ c ∷ d ∷ e ∷ f ∷ g ∷ more) = None

abbrev pub a_hex_color : List ℕ → Option (Value ReadNumber)
a_hex_color t = then (behind (codes "#") (skip_white t)) (λ u. only_if (at_end (left is_hex u)) (from_digits (taken is_hex u)))

-- ---- rgb(..)

-- a whole number, and a percentage of 255 to the nearest whole number, both cut to 0 .. 255
abbrev pub whole_channel : Numeral → ℕ
whole_channel n = cond n.minus 0 (min 255 (count n.whole))

abbrev pub percent_channel : Numeral → ℕ
percent_channel n = cond n.minus 0 (min 255 ((510 * above n + 100 * below n) / (200 * below n)))

abbrev pub whole_number : Numeral × List ℕ → Option ℕ
whole_number n = only_if (is_empty n.0.fraction && (is_empty n.0.exponent && at_end n.1)) (Some (whole_channel n.0))

abbrev pub percentage : Numeral × List ℕ → Option ℕ
percentage n = then (behind (codes "%") n.1) (λ rest. only_if (at_end rest) (Some (percent_channel n.0)))

abbrev pub channel : (Numeral × List ℕ → Option ℕ) → List ℕ → Option ℕ
channel reader t = then (take_number (skip_white t)) reader

abbrev pub three_channels : (Numeral × List ℕ → Option ℕ) → List (List ℕ) → Option (Value ReadNumber)
three_channels reader [] = None
three_channels reader (a ∷ []) = None
three_channels reader (a ∷ b ∷ []) = None
three_channels reader (a ∷ b ∷ c ∷ []) = then (channel reader a) (λ r. then (channel reader b) (λ g. then (channel reader c) (λ l. Some (color r g l))))
three_channels reader (a ∷ b ∷ c ∷ d ∷ more) = None

abbrev pub from_channels : List (List ℕ) → Option (Value ReadNumber)
from_channels parts = or_else (three_channels whole_number parts) (three_channels percentage parts)

abbrev pub an_rgb_color : List ℕ → Option (Value ReadNumber)
an_rgb_color t =
    then (behind_word (codes "rgb(") (skip_white t)) (λ u. then (to_bracket u) (λ inner. only_if (at_end inner.1) (from_channels (pieces (λ c. nat_eq c 44) inner.0))))

-- ---- names

abbrev pub color_words : Table
color_words =
    (codes "currentcolor", keyword (codes "currentColor"))
    ∷ (codes "aliceblue", color 240 248 255) ∷ (codes "antiquewhite", color 250 235 215) ∷ (codes "aqua", color 0 255 255)
    ∷ (codes "aquamarine", color 127 255 212) ∷ (codes "azure", color 240 255 255) ∷ (codes "beige", color 245 245 220)
    ∷ (codes "bisque", color 255 228 196) ∷ (codes "black", color 0 0 0) ∷ (codes "blanchedalmond", color 255 235 205)
    ∷ (codes "blue", color 0 0 255) ∷ (codes "blueviolet", color 138 43 226) ∷ (codes "brown", color 165 42 42)
    ∷ (codes "burlywood", color 222 184 135) ∷ (codes "cadetblue", color 95 158 160) ∷ (codes "chartreuse", color 127 255 0)
    ∷ (codes "chocolate", color 210 105 30) ∷ (codes "coral", color 255 127 80) ∷ (codes "cornflowerblue", color 100 149 237)
    ∷ (codes "cornsilk", color 255 248 220) ∷ (codes "crimson", color 220 20 60) ∷ (codes "cyan", color 0 255 255)
    ∷ (codes "darkblue", color 0 0 139) ∷ (codes "darkcyan", color 0 139 139) ∷ (codes "darkgoldenrod", color 184 134 11)
    ∷ (codes "darkgray", color 169 169 169) ∷ (codes "darkgreen", color 0 100 0) ∷ (codes "darkgrey", color 169 169 169)
    ∷ (codes "darkkhaki", color 189 183 107) ∷ (codes "darkmagenta", color 139 0 139) ∷ (codes "darkolivegreen", color 85 107 47)
    ∷ (codes "darkorange", color 255 140 0) ∷ (codes "darkorchid", color 153 50 204) ∷ (codes "darkred", color 139 0 0)
    ∷ (codes "darksalmon", color 233 150 122) ∷ (codes "darkseagreen", color 143 188 143) ∷ (codes "darkslateblue", color 72 61 139)
    ∷ (codes "darkslategray", color 47 79 79) ∷ (codes "darkslategrey", color 47 79 79) ∷ (codes "darkturquoise", color 0 206 209)
    ∷ (codes "darkviolet", color 148 0 211) ∷ (codes "deeppink", color 255 20 147) ∷ (codes "deepskyblue", color 0 191 255)
    ∷ (codes "dimgray", color 105 105 105) ∷ (codes "dimgrey", color 105 105 105) ∷ (codes "dodgerblue", color 30 144 255)
    ∷ (codes "firebrick", color 178 34 34) ∷ (codes "floralwhite", color 255 250 240) ∷ (codes "forestgreen", color 34 139 34)
    ∷ (codes "fuchsia", color 255 0 255) ∷ (codes "gainsboro", color 220 220 220) ∷ (codes "ghostwhite", color 248 248 255)
    ∷ (codes "gold", color 255 215 0) ∷ (codes "goldenrod", color 218 165 32) ∷ (codes "gray", color 128 128 128) ∷ (codes "green", color 0 128 0)
    ∷ (codes "greenyellow", color 173 255 47) ∷ (codes "grey", color 128 128 128) ∷ (codes "honeydew", color 240 255 240)
    ∷ (codes "hotpink", color 255 105 180) ∷ (codes "indianred", color 205 92 92) ∷ (codes "indigo", color 75 0 130)
    ∷ (codes "ivory", color 255 255 240) ∷ (codes "khaki", color 240 230 140) ∷ (codes "lavender", color 230 230 250)
    ∷ (codes "lavenderblush", color 255 240 245) ∷ (codes "lawngreen", color 124 252 0) ∷ (codes "lemonchiffon", color 255 250 205)
    ∷ (codes "lightblue", color 173 216 230) ∷ (codes "lightcoral", color 240 128 128) ∷ (codes "lightcyan", color 224 255 255)
    ∷ (codes "lightgoldenrodyellow", color 250 250 210) ∷ (codes "lightgray", color 211 211 211) ∷ (codes "lightgreen", color 144 238 144)
    ∷ (codes "lightgrey", color 211 211 211) ∷ (codes "lightpink", color 255 182 193) ∷ (codes "lightsalmon", color 255 160 122)
    ∷ (codes "lightseagreen", color 32 178 170) ∷ (codes "lightskyblue", color 135 206 250) ∷ (codes "lightslategray", color 119 136 153)
    ∷ (codes "lightslategrey", color 119 136 153) ∷ (codes "lightsteelblue", color 176 196 222) ∷ (codes "lightyellow", color 255 255 224)
    ∷ (codes "lime", color 0 255 0) ∷ (codes "limegreen", color 50 205 50) ∷ (codes "linen", color 250 240 230) ∷ (codes "magenta", color 255 0 255)
    ∷ (codes "maroon", color 128 0 0) ∷ (codes "mediumaquamarine", color 102 205 170) ∷ (codes "mediumblue", color 0 0 205)
    ∷ (codes "mediumorchid", color 186 85 211) ∷ (codes "mediumpurple", color 147 112 219) ∷ (codes "mediumseagreen", color 60 179 113)
    ∷ (codes "mediumslateblue", color 123 104 238) ∷ (codes "mediumspringgreen", color 0 250 154) ∷ (codes "mediumturquoise", color 72 209 204)
    ∷ (codes "mediumvioletred", color 199 21 133) ∷ (codes "midnightblue", color 25 25 112) ∷ (codes "mintcream", color 245 255 250)
    ∷ (codes "mistyrose", color 255 228 225) ∷ (codes "moccasin", color 255 228 181) ∷ (codes "navajowhite", color 255 222 173)
    ∷ (codes "navy", color 0 0 128) ∷ (codes "oldlace", color 253 245 230) ∷ (codes "olive", color 128 128 0) ∷ (codes "olivedrab", color 107 142 35)
    ∷ (codes "orange", color 255 165 0) ∷ (codes "orangered", color 255 69 0) ∷ (codes "orchid", color 218 112 214)
    ∷ (codes "palegoldenrod", color 238 232 170) ∷ (codes "palegreen", color 152 251 152) ∷ (codes "paleturquoise", color 175 238 238)
    ∷ (codes "palevioletred", color 219 112 147) ∷ (codes "papayawhip", color 255 239 213) ∷ (codes "peachpuff", color 255 218 185)
    ∷ (codes "peru", color 205 133 63) ∷ (codes "pink", color 255 192 203) ∷ (codes "plum", color 221 160 221)
    ∷ (codes "powderblue", color 176 224 230) ∷ (codes "purple", color 128 0 128) ∷ (codes "red", color 255 0 0)
    ∷ (codes "rosybrown", color 188 143 143) ∷ (codes "royalblue", color 65 105 225) ∷ (codes "saddlebrown", color 139 69 19)
    ∷ (codes "salmon", color 250 128 114) ∷ (codes "sandybrown", color 244 164 96) ∷ (codes "seagreen", color 46 139 87)
    ∷ (codes "seashell", color 255 245 238) ∷ (codes "sienna", color 160 82 45) ∷ (codes "silver", color 192 192 192)
    ∷ (codes "skyblue", color 135 206 235) ∷ (codes "slateblue", color 106 90 205) ∷ (codes "slategray", color 112 128 144)
    ∷ (codes "slategrey", color 112 128 144) ∷ (codes "snow", color 255 250 250) ∷ (codes "springgreen", color 0 255 127)
    ∷ (codes "steelblue", color 70 130 180) ∷ (codes "tan", color 210 180 140) ∷ (codes "teal", color 0 128 128)
    ∷ (codes "thistle", color 216 191 216) ∷ (codes "tomato", color 255 99 71) ∷ (codes "turquoise", color 64 224 208)
    ∷ (codes "violet", color 238 130 238) ∷ (codes "wheat", color 245 222 179) ∷ (codes "white", color 255 255 255)
    ∷ (codes "whitesmoke", color 245 245 245) ∷ (codes "yellow", color 255 255 0) ∷ (codes "yellowgreen", color 154 205 50) ∷ []

unfoldable pub a_color_word : List ℕ → Option (Value ReadNumber)
a_color_word t = from_table color_words t

abbrev pub any_color : List ℕ → Option (Value ReadNumber)
any_color t = or_else (a_hex_color t) (or_else (an_rgb_color t) (a_color_word t))
