-- Known texts: how each reads, and texts that are not read, for the corners of each grammar.
use Rattle.std.specs.Prelude.{◌≡◌, ℕ, List, [], ◌∷◌, ◌++◌, codes, from_bits}
use Rattle.std.specs.Float.{binary32}
use Rattle.svg.specs.Values.{Value, none, number, dimension, weight, numbers, offsets, keyword, color, reference, references, matrix, families, path, text, inherit, initial, unset, unread, serif, sans_serif, cursive, fantasy, monospace, named, Command, ReadNumber, said, over}
use Rattle.svg.specs.Properties.{Syntax, any_text, a_number, dashes, offset_list, spacing, a_number_or, font_weight, css_words, exact_words, paint, a_color, func_iri, func_iri_list, iri, transform_list, family_list, path_data, themselves, size_words, order_words, shape_words, writing_words}
use Rattle.svg.specs.Transforms.{identity}
use Rattle.svg.specs.Styles.{declarations}
use Rattle.svg.specs.Syntaxes.{read_by}

pub record Sample : Type 0 where
  pub syntax : Syntax
  pub spelled : List ℕ
  pub means : Value ReadNumber

abbrev sample : Syntax → List ℕ → Value ReadNumber → Sample
sample syntax spelled means = record { syntax = syntax; spelled = spelled; means = means }

-- a float by its bits
abbrev number_of : ℕ → ReadNumber
number_of bits = said (from_bits binary32 bits)

abbrev command : ℕ → List ReadNumber → Command ReadNumber
command letter xs = record { letter = letter; numbers = xs }

abbrev pub samples : List Sample
samples =
    -- numbers and lengths
    sample a_number (codes "10") (number (number_of 0x41200000))
    ∷ sample a_number (codes "-.5") (number (number_of 0xBF000000))
    ∷ sample a_number (codes "+2.50") (number (number_of 0x40200000))
    ∷ sample a_number (codes " " ++ (10 ∷ (codes "1e3" ++ (9 ∷ [])))) (number (number_of 0x447A0000))
    ∷ sample a_number (codes "1E-2") (number (number_of 0x3C23D70A))
    ∷ sample a_number (codes "16777217") (number (number_of 0x4B800000))
    ∷ sample a_number (codes "-0") (number (number_of 0x80000000))
    ∷ sample a_number (codes "007") (number (number_of 0x40E00000))
    ∷ sample a_number (codes "12px") (number (number_of 0x41400000))
    ∷ sample a_number (codes "12PX") (number (number_of 0x41400000))
    ∷ sample a_number (codes "1em") (dimension (number_of 0x3F800000) (codes "em"))
    ∷ sample a_number (codes "1e1em") (dimension (number_of 0x41200000) (codes "em"))
    ∷ sample a_number (codes "2.5%") (dimension (number_of 0x40200000) (codes "%"))
    ∷ sample a_number (codes "1Q") (dimension (number_of 0x3F800000) (codes "q"))
    ∷ sample a_number (codes "Inherit") inherit
    ∷ sample a_number (codes " initial") initial
    ∷ sample a_number (codes "unset") unset
    ∷ sample a_number [] unread
    ∷ sample a_number (codes "5.") unread
    ∷ sample a_number (codes ".") unread
    ∷ sample a_number (codes "-") unread
    ∷ sample a_number (codes "+-1") unread
    ∷ sample a_number (codes "1 2") unread
    ∷ sample a_number (codes "1,") unread
    ∷ sample a_number (codes "1 px") unread
    ∷ sample a_number (codes "1p") unread
    ∷ sample a_number (codes "1e") unread
    ∷ sample a_number (codes "e3") unread
    ∷ sample a_number (codes "0x10") unread
    ∷ sample a_number (codes "1%%") unread
    ∷ sample a_number (codes "none") unread
    ∷ sample a_number (codes "--1") unread
    ∷ sample a_number (codes "1e+") unread
    ∷ sample a_number (codes "NaN") unread
    ∷ sample spacing (codes "normal") (number (number_of 0x00000000))
    ∷ sample spacing (codes "-1.5px") (number (number_of 0xBFC00000))
    ∷ sample spacing (codes "0.1em") (dimension (number_of 0x3DCCCCCD) (codes "em"))
    ∷ sample spacing (codes "auto") unread
    ∷ sample (a_number_or size_words) (codes "x-Large") (keyword (codes "x-large"))
    ∷ sample (a_number_or size_words) (codes "12") (number (number_of 0x41400000))
    ∷ sample (a_number_or size_words) (codes "huge") unread
    -- lists of numbers
    ∷ sample dashes (codes "5 3, 2") (numbers ((number_of 0x40A00000) ∷ (number_of 0x40400000) ∷ (number_of 0x40000000) ∷ []))
    ∷ sample dashes (codes "10-5") (numbers ((number_of 0x41200000) ∷ (number_of 0xC0A00000) ∷ []))
    ∷ sample dashes (codes "1.5.5") (numbers ((number_of 0x3FC00000) ∷ (number_of 0x3F000000) ∷ []))
    ∷ sample dashes (codes "1,2px ," ++ (10 ∷ (codes "3"))) (numbers ((number_of 0x3F800000) ∷ (number_of 0x40000000) ∷ (number_of 0x40400000) ∷ []))
    ∷ sample dashes (codes " 4 ") (numbers ((number_of 0x40800000) ∷ []))
    ∷ sample dashes (codes "none") none
    ∷ sample dashes (codes "inherit") inherit
    ∷ sample dashes [] unread
    ∷ sample dashes (codes "1,,2") unread
    ∷ sample dashes (codes "1,") unread
    ∷ sample dashes (codes ",1") unread
    ∷ sample dashes (codes "1;2") unread
    ∷ sample dashes (codes "1em 2") unread
    ∷ sample dashes (codes "1 none") unread
    ∷ sample dashes (codes "5px3") unread
    ∷ sample offset_list (codes "0 -1.5") (offsets ((number_of 0x00000000) ∷ (number_of 0xBFC00000) ∷ []))
    ∷ sample offset_list (codes "inherit") unread
    ∷ sample offset_list [] unread
    -- font weights
    ∷ sample font_weight (codes "700") (weight 700)
    ∷ sample font_weight (codes "+0") (weight 0)
    ∷ sample font_weight (codes " BOLD ") (weight 700)
    ∷ sample font_weight (codes "normal") (weight 400)
    ∷ sample font_weight (codes "bolder") (keyword (codes "bolder"))
    ∷ sample font_weight (codes "65535") (weight 65535)
    ∷ sample font_weight (codes "65536") unread
    ∷ sample font_weight (codes "-1") unread
    ∷ sample font_weight (codes "400.5") unread
    ∷ sample font_weight (codes "4e2") unread
    ∷ sample font_weight (codes "700px") unread
    ∷ sample font_weight (codes "heavy") unread
    -- keywords
    ∷ sample (css_words order_words) (codes "  Stroke " ++ (9 ∷ (codes " FILL "))) (keyword (codes "stroke"))
    ∷ sample (css_words order_words) (codes "strokefill") unread
    ∷ sample (css_words order_words) (codes "fill fill") unread
    ∷ sample (css_words shape_words) (codes "crispEdges") (keyword (codes "crispEdges"))
    ∷ sample (css_words shape_words) (codes "CRISPEDGES") (keyword (codes "crispEdges"))
    ∷ sample (css_words shape_words) (codes "unset") unset
    ∷ sample (css_words shape_words) (codes "crisp edges") unread
    ∷ sample (css_words writing_words) (codes "tb") (keyword (codes "vertical-rl"))
    ∷ sample (exact_words (themselves (codes "pad" ∷ codes "reflect" ∷ []))) (codes "reflect") (keyword (codes "reflect"))
    ∷ sample (exact_words (themselves (codes "pad" ∷ codes "reflect" ∷ []))) (codes "Reflect") unread
    ∷ sample (exact_words (themselves (codes "pad" ∷ codes "reflect" ∷ []))) (codes " pad") unread
    ∷ sample (exact_words (themselves (codes "pad" ∷ codes "reflect" ∷ []))) (codes "inherit") unread
    ∷ sample (exact_words (themselves (codes "pad" ∷ codes "reflect" ∷ []))) [] unread
    -- colours and paint
    ∷ sample paint (codes "#1aF") (color 17 170 255)
    ∷ sample paint (codes " #0080fF ") (color 0 128 255)
    ∷ sample paint (codes "none") none
    ∷ sample paint (codes "OrangeRed") (color 255 69 0)
    ∷ sample paint (codes "grey") (color 128 128 128)
    ∷ sample paint (codes "currentcolor") (keyword (codes "currentColor"))
    ∷ sample paint (codes "rgb(255,0, 128)") (color 255 0 128)
    ∷ sample paint (codes "RGB( 300 , -5 , +7 )") (color 255 0 7)
    ∷ sample paint (codes "rgb(50%, 12.5%,100%)") (color 128 32 255)
    ∷ sample paint (codes "context-fill") (keyword (codes "context-fill"))
    ∷ sample paint (codes "inherit") inherit
    ∷ sample paint [] unread
    ∷ sample paint (codes "#12") unread
    ∷ sample paint (codes "#12345") unread
    ∷ sample paint (codes "#1234567") unread
    ∷ sample paint (codes "#12g") unread
    ∷ sample paint (codes "# 123") unread
    ∷ sample paint (codes "#123 4") unread
    ∷ sample paint (codes "rgb(1,2)") unread
    ∷ sample paint (codes "rgb(1,2,3,4)") unread
    ∷ sample paint (codes "rgb(1 2 3)") unread
    ∷ sample paint (codes "rgb(1,2%,3)") unread
    ∷ sample paint (codes "rgb(1.5,2,3)") unread
    ∷ sample paint (codes "rgb(1,2,3") unread
    ∷ sample paint (codes "rgb (1,2,3)") unread
    ∷ sample paint (codes "rouge") unread
    ∷ sample paint (codes "#1234") unread
    ∷ sample paint (codes "transparent") unread
    ∷ sample paint (codes "red blue") unread
    ∷ sample paint (codes "url(#a)") (reference (codes "a"))
    ∷ sample paint (codes "url( '#a b' ) none") (reference (codes "a b"))
    ∷ sample paint (codes "URL(\"#\\61 b\") #f00") (reference (codes "ab"))
    ∷ sample paint (codes "url(#a)red") (reference (codes "a"))
    ∷ sample paint (codes "url(#)") unread
    ∷ sample paint (codes "url(a)") unread
    ∷ sample paint (codes "url (#a)") unread
    ∷ sample paint (codes "url(#a") unread
    ∷ sample paint (codes "url(#a b)") unread
    ∷ sample paint (codes "url(#a) url(#b)") unread
    ∷ sample paint (codes "url(#a) blurple") unread
    ∷ sample paint (codes "#a)") unread
    ∷ sample a_color (codes "none") unread
    ∷ sample a_color (codes "black") (color 0 0 0)
    ∷ sample a_color (codes "url(#a)") unread
    -- references
    ∷ sample func_iri (codes "none") none
    ∷ sample func_iri (codes " url(#clip-1) ") (reference (codes "clip-1"))
    ∷ sample func_iri (codes "url(\"#x\\\"y\")") (reference (codes "x\"y"))
    ∷ sample func_iri (codes "url(#a) none") unread
    ∷ sample func_iri (codes "url(file.svg#a)") unread
    ∷ sample func_iri_list (codes "url(#a)") (references (codes "a" ∷ []))
    ∷ sample func_iri_list (codes "url(#a) url( #b )url('#c')") (references (codes "a" ∷ codes "b" ∷ codes "c" ∷ []))
    ∷ sample func_iri_list (codes "none") none
    ∷ sample func_iri_list (codes "url(#a), url(#b)") unread
    ∷ sample func_iri_list (codes "url(#a) none") unread
    ∷ sample func_iri_list [] unread
    ∷ sample iri (codes "#a") (reference (codes "a"))
    ∷ sample iri (codes "a.png") (text (codes "a.png"))
    ∷ sample iri [] (text [])
    ∷ sample iri (codes " #a") (text (codes " #a"))
    ∷ sample iri (codes "inherit") (text (codes "inherit"))
    -- transforms
    ∷ sample transform_list (codes "matrix(1 2 3 4 5 6)") (matrix (number_of 0x3F800000) (number_of 0x40000000) (number_of 0x40400000) (number_of 0x40800000) (number_of 0x40A00000) (number_of 0x40C00000))
    ∷ sample transform_list (codes " matrix ( 1,0 ,0,1-5.5.25 )" ++ (10 ∷ [])) (matrix (number_of 0x3F800000) (number_of 0x00000000) (number_of 0x00000000) (number_of 0x3F800000) (number_of 0xC0B00000) (number_of 0x3E800000))
    ∷ sample transform_list [] identity
    ∷ sample transform_list (codes "translate(3)") (matrix (number_of 0x3F800000) (number_of 0x00000000) (number_of 0x00000000) (number_of 0x3F800000) (number_of 0x40400000) (number_of 0x00000000))
    ∷ sample transform_list (codes "scale(2,3)") (matrix (number_of 0x40000000) (number_of 0x00000000) (number_of 0x00000000) (number_of 0x40400000) (number_of 0x00000000) (number_of 0x00000000))
    ∷ sample transform_list (codes "matrix(1 2 3 4 5)") unread
    ∷ sample transform_list (codes "matrix(1 2 3 4 5 6 7)") unread
    ∷ sample transform_list (codes "matrix(1,2,3,4,5,,6)") unread
    ∷ sample transform_list (codes "matrix(1,2,3,4,5,6,)") unread
    ∷ sample transform_list (codes "Matrix(1 2 3 4 5 6)") unread
    ∷ sample transform_list (codes "matrix(1 2 3 4 5 6") unread
    ∷ sample transform_list (codes "matrix 1 2 3 4 5 6") unread
    ∷ sample transform_list (codes "matrix(1 2 3 4 5 6px)") unread
    ∷ sample transform_list (codes "none") unread
    ∷ sample transform_list (codes "inherit") unread
    ∷ sample transform_list (codes "rotate(45)") unread
    ∷ sample transform_list (codes "translate(1) scale(2)") unread
    -- families
    ∷ sample family_list (codes "Arial") (families (named (codes "Arial") ∷ []))
    ∷ sample family_list (codes " Times  New" ++ (10 ∷ (codes "Roman , Serif "))) (families (named (codes "Times New Roman") ∷ serif ∷ []))
    ∷ sample family_list (codes "\"A, B\",'it\\'s',\"\\41\\00042 C\"") (families (named (codes "A, B") ∷ named (codes "it's") ∷ named (codes "ABC") ∷ []))
    ∷ sample family_list (codes "\"serif\"") (families (named (codes "serif") ∷ []))
    ∷ sample family_list (codes "my serif") (families (named (codes "my serif") ∷ []))
    ∷ sample family_list (codes "-x_1, é日") (families (named (codes "-x_1") ∷ named (codes "é日") ∷ []))
    ∷ sample family_list (codes "SANS-SERIF,cursive,fantasy,monospace") (families (sans_serif ∷ cursive ∷ fantasy ∷ monospace ∷ []))
    ∷ sample family_list (codes "inherit") inherit
    ∷ sample family_list (codes "UNSET") unset
    ∷ sample family_list (codes "\"\"") (families (named ([]) ∷ []))
    ∷ sample family_list [] unread
    ∷ sample family_list (codes "Arial,") unread
    ∷ sample family_list (codes ",Arial") unread
    ∷ sample family_list (codes "Arial,,B") unread
    ∷ sample family_list (codes "2 Fonts") unread
    ∷ sample family_list (codes "Font 2") unread
    ∷ sample family_list (codes "--x") unread
    ∷ sample family_list (codes "A inherit, inherit") unread
    ∷ sample family_list (codes "default") unread
    ∷ sample family_list (codes "Arial, initial") unread
    ∷ sample family_list (codes "\"Arial") unread
    ∷ sample family_list (codes "\"A\"B") unread
    ∷ sample family_list (codes "\"A\" \"B\"") unread
    ∷ sample family_list (codes "A/B") unread
    ∷ sample family_list (codes "\"A" ++ (10 ∷ (codes "B\""))) unread
    ∷ sample family_list (codes "A;B") unread
    -- path data
    ∷ sample path_data (codes "M 0 0 L 10 0.5 Z") (path (command 77 ((number_of 0x00000000) ∷ (number_of 0x00000000) ∷ []) ∷ command 76 ((number_of 0x41200000) ∷ (number_of 0x3F000000) ∷ []) ∷ command 90 ([]) ∷ []))
    ∷ sample path_data (codes "m1-2.5.5,3 4z") unread
    ∷ sample path_data (codes "m1-2.5.5,3z") (path (command 109 ((number_of 0x3F800000) ∷ (number_of 0xC0200000) ∷ []) ∷ command 108 ((number_of 0x3F000000) ∷ (number_of 0x40400000) ∷ []) ∷ command 122 ([]) ∷ []))
    ∷ sample path_data (codes " M0,0 1,1H5v-2 3") (path (command 77 ((number_of 0x00000000) ∷ (number_of 0x00000000) ∷ []) ∷ command 76 ((number_of 0x3F800000) ∷ (number_of 0x3F800000) ∷ []) ∷ command 72 ((number_of 0x40A00000) ∷ []) ∷ command 118 ((number_of 0xC0000000) ∷ []) ∷ command 118 ((number_of 0x40400000) ∷ []) ∷ []))
    ∷ sample path_data (codes "M0 0C1 2 3 4 5 6 7 8 9 10 11 12s1,2,3,4") (path (command 77 ((number_of 0x00000000) ∷ (number_of 0x00000000) ∷ []) ∷ command 67 ((number_of 0x3F800000) ∷ (number_of 0x40000000) ∷ (number_of 0x40400000) ∷ (number_of 0x40800000) ∷ (number_of 0x40A00000) ∷ (number_of 0x40C00000) ∷ []) ∷ command 67 ((number_of 0x40E00000) ∷ (number_of 0x41000000) ∷ (number_of 0x41100000) ∷ (number_of 0x41200000) ∷ (number_of 0x41300000) ∷ (number_of 0x41400000) ∷ []) ∷ command 115 ((number_of 0x3F800000) ∷ (number_of 0x40000000) ∷ (number_of 0x40400000) ∷ (number_of 0x40800000) ∷ []) ∷ []))
    ∷ sample path_data (codes "M0 0Q1 2 3 4T5 6") (path (command 77 ((number_of 0x00000000) ∷ (number_of 0x00000000) ∷ []) ∷ command 81 ((number_of 0x3F800000) ∷ (number_of 0x40000000) ∷ (number_of 0x40400000) ∷ (number_of 0x40800000) ∷ []) ∷ command 84 ((number_of 0x40A00000) ∷ (number_of 0x40C00000) ∷ []) ∷ []))
    ∷ sample path_data (codes "M0 0a1 2 30 01.5.5A1,1,0,1,0 5-5") (path (command 77 ((number_of 0x00000000) ∷ (number_of 0x00000000) ∷ []) ∷ command 97 ((number_of 0x3F800000) ∷ (number_of 0x40000000) ∷ (number_of 0x41F00000) ∷ (number_of 0x00000000) ∷ (number_of 0x3F800000) ∷ (number_of 0x3F000000) ∷ (number_of 0x3F000000) ∷ []) ∷ command 65 ((number_of 0x3F800000) ∷ (number_of 0x3F800000) ∷ (number_of 0x00000000) ∷ (number_of 0x3F800000) ∷ (number_of 0x00000000) ∷ (number_of 0x40A00000) ∷ (number_of 0xC0A00000) ∷ []) ∷ []))
    ∷ sample path_data [] (path ([]))
    ∷ sample path_data (codes "none") (path ([]))
    ∷ sample path_data (codes "L 0 0") unread
    ∷ sample path_data (codes "0 0") unread
    ∷ sample path_data (codes "M") unread
    ∷ sample path_data (codes "M 0") unread
    ∷ sample path_data (codes "M 0 0,") unread
    ∷ sample path_data (codes "M,0 0") unread
    ∷ sample path_data (codes "M 0 0, L 1 1") unread
    ∷ sample path_data (codes "M 0,,0") unread
    ∷ sample path_data (codes "M 0 0 Z 1 1") unread
    ∷ sample path_data (codes "M 0 0 B 1") unread
    ∷ sample path_data (codes "M 0 0 a 1 1 0 2 0 1 1") unread
    ∷ sample path_data (codes "M 0 0 L 1") unread
    ∷ sample path_data (codes "M 5. 0") unread
    ∷ sample path_data (codes "M 0 0 z z ;") unread
    ∷ sample path_data (codes "M 0 0 1") unread
    ∷ sample any_text (codes " a b") (text (codes " a b"))
    ∷ []

-- ---- style attributes

abbrev pub styles : List (List ℕ)
styles =
    codes "mix-blend-mode:multiply;isolation:auto"
    ∷ codes " Fill : #F00 ; ; stroke:none;"
    ∷ codes "a:'x;y:z';b:url(p;q:r);c:d\\;e"
    ∷ codes "/* k:l; */a/**/:b/*;*/ c;d:/e"
    ∷ codes "fill;:red;1 2:3;x:y:z"
    ∷ []

abbrev pub styles_mean : List (List (List ℕ × List ℕ))
styles_mean =
    ((codes "mix-blend-mode", codes "multiply") ∷ (codes "isolation", codes "auto") ∷ [])
    ∷ ((codes "fill", codes "#F00") ∷ (codes "stroke", codes "none") ∷ [])
    ∷ ((codes "a", codes "'x;y:z'") ∷ (codes "b", codes "url(p;q:r)") ∷ (codes "c", codes "d\\;e") ∷ [])
    ∷ ((codes "a", codes "b  c") ∷ (codes "d", codes "/e") ∷ [])
    ∷ ((codes "x", codes "y:z") ∷ [])
    ∷ []

abbrev pub SamplesStand : Type 0
SamplesStand =
    (over (λ s. read_by s.syntax s.spelled) samples ≡ over (λ s. s.means) samples)
    × (over declarations styles ≡ styles_mean)
