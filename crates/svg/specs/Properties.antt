-- The table of properties and attributes: the name, where it may stand, whether it inherits, its syntax, and the value that
-- an element has where nothing gives it one.
use Rattle.std.specs.Prelude.{ℕ, Bool, true, false, cond, List, [], ◌∷◌, codes, from_bits, Float}
use Rattle.std.specs.Float.{binary32}
use Rattle.std.specs.Str.{bytes_eq}
use Rattle.drawing.specs.Tables.{nought, one}
use Rattle.svg.specs.Values.{Value, none, number, weight, offsets, keyword, color, matrix, ReadNumber, left_out, GivenNumber, not_given, with_numbers}

-- the words that a property takes, each with the word that stands for its meaning
abbrev pub Words : Type 0
Words = List (List ℕ × List ℕ)

pub data Syntax : Type 0 where
  -- the text as it is
  any_text : Syntax
  -- a number or a length
  a_number : Syntax
  -- none, or a list of lengths
  dashes : Syntax
  -- a list of numbers or lengths
  offset_list : Syntax
  -- normal, or a length
  spacing : Syntax
  -- a length, or one of these words
  a_number_or : Words → Syntax
  -- normal, bold, bolder, lighter, or a number
  font_weight : Syntax
  -- CSS keywords, in any letter case
  css_words : Words → Syntax
  -- keywords of an attribute that is no CSS property, exactly as spelled
  exact_words : Words → Syntax
  -- none, a colour, or url(#id)
  paint : Syntax
  a_color : Syntax
  -- none, or url(#id)
  func_iri : Syntax
  -- none, or several of these
  func_iri_list : Syntax
  -- #id, or another link
  iri : Syntax
  transform_list : Syntax
  family_list : Syntax
  path_data : Syntax

-- where a value may stand: as an attribute, as a declaration in a style attribute, or both
pub data Stands : Type 0 where
  as_attribute : Stands
  in_style : Stands
  in_both : Stands

pub record Property : Type 0 where
  pub name : List ℕ
  pub stands : Stands
  pub inherited : Bool
  pub syntax : Syntax
  pub absent : Value Float

abbrev row : List ℕ → Stands → Bool → Syntax → Value Float → Property
row name stands inherited syntax absent = record { name = name; stands = stands; inherited = inherited; syntax = syntax; absent = absent }

abbrev four : Float
four = from_bits binary32 0x40800000

abbrev identity : Value Float
identity = matrix one nought nought one nought nought

-- ---- keyword tables

-- words that mean themselves
abbrev pub themselves : List (List ℕ) → Words
themselves [] = []
themselves (word ∷ words) = (word, word) ∷ themselves words

-- CSS Compositing Level 1, and plus-lighter
abbrev pub blend_words : Words
blend_words = themselves (codes "normal" ∷ codes "multiply" ∷ codes "screen" ∷ codes "overlay" ∷ codes "darken" ∷ codes "lighten" ∷ codes "color-dodge" ∷ codes "color-burn" ∷ codes "hard-light" ∷ codes "soft-light" ∷ codes "difference" ∷ codes "exclusion" ∷ codes "hue" ∷ codes "saturation" ∷ codes "color" ∷ codes "luminosity" ∷ codes "plus-lighter" ∷ [])

-- SVG 2: the order of painting; what is not named comes after what is, in the order fill, stroke, markers
abbrev pub order_words : Words
order_words =
    (codes "normal", codes "normal") ∷ (codes "fill", codes "normal") ∷ (codes "fill stroke", codes "normal") ∷ (codes "fill stroke markers", codes "normal")
    ∷ (codes "stroke", codes "stroke") ∷ (codes "stroke fill", codes "stroke") ∷ (codes "stroke fill markers", codes "stroke")
    ∷ (codes "markers", codes "markers") ∷ (codes "markers fill", codes "markers") ∷ (codes "markers fill stroke", codes "markers")
    ∷ (codes "fill markers", codes "fill markers") ∷ (codes "fill markers stroke", codes "fill markers")
    ∷ (codes "stroke markers", codes "stroke markers") ∷ (codes "stroke markers fill", codes "stroke markers")
    ∷ (codes "markers stroke", codes "markers stroke") ∷ (codes "markers stroke fill", codes "markers stroke")
    ∷ []

-- SVG 1.1 and SVG 2: lr, lr-tb, rl and rl-tb are horizontal, tb and tb-rl vertical
abbrev pub writing_words : Words
writing_words =
    (codes "lr", codes "horizontal-tb") ∷ (codes "lr-tb", codes "horizontal-tb") ∷ (codes "rl", codes "horizontal-tb") ∷ (codes "rl-tb", codes "horizontal-tb") ∷ (codes "horizontal-tb", codes "horizontal-tb")
    ∷ (codes "tb", codes "vertical-rl") ∷ (codes "tb-rl", codes "vertical-rl") ∷ (codes "vertical-rl", codes "vertical-rl")
    ∷ (codes "vertical-lr", codes "vertical-lr")
    ∷ []

abbrev pub size_words : Words
size_words = themselves (codes "xx-small" ∷ codes "x-small" ∷ codes "small" ∷ codes "medium" ∷ codes "large" ∷ codes "x-large" ∷ codes "xx-large" ∷ codes "smaller" ∷ codes "larger" ∷ [])

abbrev pub stretch_words : Words
stretch_words = themselves (codes "normal" ∷ codes "ultra-condensed" ∷ codes "extra-condensed" ∷ codes "condensed" ∷ codes "semi-condensed" ∷ codes "semi-expanded" ∷ codes "expanded" ∷ codes "extra-expanded" ∷ codes "ultra-expanded" ∷ codes "wider" ∷ codes "narrower" ∷ [])

abbrev pub dominant_words : Words
dominant_words = themselves (codes "auto" ∷ codes "use-script" ∷ codes "no-change" ∷ codes "reset-size" ∷ codes "ideographic" ∷ codes "alphabetic" ∷ codes "hanging" ∷ codes "mathematical" ∷ codes "central" ∷ codes "middle" ∷ codes "text-after-edge" ∷ codes "text-before-edge" ∷ codes "text-top" ∷ codes "text-bottom" ∷ [])

abbrev pub alignment_words : Words
alignment_words = themselves (codes "auto" ∷ codes "baseline" ∷ codes "before-edge" ∷ codes "text-before-edge" ∷ codes "middle" ∷ codes "central" ∷ codes "after-edge" ∷ codes "text-after-edge" ∷ codes "ideographic" ∷ codes "alphabetic" ∷ codes "hanging" ∷ codes "mathematical" ∷ codes "top" ∷ codes "center" ∷ codes "bottom" ∷ codes "text-top" ∷ codes "text-bottom" ∷ [])

-- keywords with capital letters are compared in small ones, and mean the standard's spelling
abbrev pub shape_words : Words
shape_words = (codes "auto", codes "auto") ∷ (codes "optimizespeed", codes "optimizeSpeed") ∷ (codes "crispedges", codes "crispEdges") ∷ (codes "geometricprecision", codes "geometricPrecision") ∷ []

abbrev pub text_rendering_words : Words
text_rendering_words = (codes "auto", codes "auto") ∷ (codes "optimizespeed", codes "optimizeSpeed") ∷ (codes "optimizelegibility", codes "optimizeLegibility") ∷ (codes "geometricprecision", codes "geometricPrecision") ∷ []

abbrev pub image_words : Words
image_words = (codes "auto", codes "auto") ∷ (codes "optimizespeed", codes "optimizeSpeed") ∷ (codes "optimizequality", codes "optimizeQuality") ∷ themselves (codes "smooth" ∷ codes "high-quality" ∷ codes "crisp-edges" ∷ codes "pixelated" ∷ [])

-- ---- the rows

abbrev pub properties : List Property
properties =
    row (codes "id") as_attribute false any_text none
    ∷ row (codes "xmlns") as_attribute false any_text none
    ∷ row (codes "xmlns:xlink") as_attribute false any_text none
    ∷ row (codes "xml:space") as_attribute true (exact_words (themselves (codes "default" ∷ codes "preserve" ∷ []))) (keyword (codes "default"))
    ∷ row (codes "opacity") in_both false a_number (number one)
    ∷ row (codes "transform") as_attribute false transform_list identity
    ∷ row (codes "clip-path") in_both false func_iri none
    ∷ row (codes "mask") in_both false func_iri none
    ∷ row (codes "filter") in_both false func_iri_list none
    ∷ row (codes "mix-blend-mode") in_style false (css_words blend_words) (keyword (codes "normal"))
    ∷ row (codes "isolation") in_style false (css_words (themselves (codes "auto" ∷ codes "isolate" ∷ []))) (keyword (codes "auto"))
    ∷ row (codes "fill") in_both true paint (color 0 0 0)
    ∷ row (codes "fill-opacity") in_both true a_number (number one)
    ∷ row (codes "fill-rule") in_both true (css_words (themselves (codes "nonzero" ∷ codes "evenodd" ∷ []))) (keyword (codes "nonzero"))
    ∷ row (codes "stroke") in_both true paint none
    ∷ row (codes "stroke-opacity") in_both true a_number (number one)
    ∷ row (codes "stroke-dasharray") in_both true dashes none
    ∷ row (codes "stroke-dashoffset") in_both true a_number (number nought)
    ∷ row (codes "stroke-miterlimit") in_both true a_number (number four)
    ∷ row (codes "stroke-width") in_both true a_number (number one)
    ∷ row (codes "stroke-linecap") in_both true (css_words (themselves (codes "butt" ∷ codes "round" ∷ codes "square" ∷ []))) (keyword (codes "butt"))
    ∷ row (codes "stroke-linejoin") in_both true (css_words (themselves (codes "miter" ∷ codes "miter-clip" ∷ codes "round" ∷ codes "bevel" ∷ codes "arcs" ∷ []))) (keyword (codes "miter"))
    ∷ row (codes "visibility") in_both true (css_words (themselves (codes "visible" ∷ codes "hidden" ∷ codes "collapse" ∷ []))) (keyword (codes "visible"))
    ∷ row (codes "paint-order") in_both true (css_words order_words) (keyword (codes "normal"))
    ∷ row (codes "shape-rendering") in_both true (css_words shape_words) (keyword (codes "geometricPrecision"))
    ∷ row (codes "text-rendering") in_both true (css_words text_rendering_words) (keyword (codes "optimizeLegibility"))
    ∷ row (codes "image-rendering") in_both true (css_words image_words) (keyword (codes "optimizeQuality"))
    ∷ row (codes "d") as_attribute false path_data none
    ∷ row (codes "width") as_attribute false a_number none
    ∷ row (codes "height") as_attribute false a_number none
    ∷ row (codes "xlink:href") as_attribute false iri none
    ∷ row (codes "writing-mode") in_both true (css_words writing_words) (keyword (codes "horizontal-tb"))
    ∷ row (codes "rotate") as_attribute false offset_list (offsets [])
    ∷ row (codes "dx") as_attribute false offset_list (offsets [])
    ∷ row (codes "dy") as_attribute false offset_list (offsets [])
    ∷ row (codes "x") as_attribute false a_number none
    ∷ row (codes "y") as_attribute false a_number none
    ∷ row (codes "startOffset") as_attribute false a_number (number nought)
    ∷ row (codes "text-anchor") in_both true (css_words (themselves (codes "start" ∷ codes "middle" ∷ codes "end" ∷ []))) (keyword (codes "start"))
    ∷ row (codes "text-decoration") in_both false (css_words (themselves (codes "none" ∷ codes "underline" ∷ codes "overline" ∷ codes "line-through" ∷ codes "blink" ∷ []))) (keyword (codes "none"))
    ∷ row (codes "font-family") in_both true family_list none
    ∷ row (codes "font-style") in_both true (css_words (themselves (codes "normal" ∷ codes "italic" ∷ codes "oblique" ∷ []))) (keyword (codes "normal"))
    ∷ row (codes "font-weight") in_both true font_weight (weight 400)
    ∷ row (codes "font-stretch") in_both true (css_words stretch_words) (keyword (codes "normal"))
    ∷ row (codes "font-size") in_both true (a_number_or size_words) (keyword (codes "medium"))
    ∷ row (codes "font-variant") in_both true (css_words (themselves (codes "normal" ∷ codes "small-caps" ∷ []))) (keyword (codes "normal"))
    ∷ row (codes "font-kerning") in_style true (css_words (themselves (codes "auto" ∷ codes "normal" ∷ codes "none" ∷ []))) (keyword (codes "auto"))
    ∷ row (codes "letter-spacing") in_both true spacing (number nought)
    ∷ row (codes "word-spacing") in_both true spacing (number nought)
    ∷ row (codes "textLength") as_attribute false a_number none
    ∷ row (codes "lengthAdjust") as_attribute false (exact_words (themselves (codes "spacing" ∷ codes "spacingAndGlyphs" ∷ []))) (keyword (codes "spacing"))
    ∷ row (codes "dominant-baseline") in_both false (css_words dominant_words) (keyword (codes "auto"))
    ∷ row (codes "alignment-baseline") in_both false (css_words alignment_words) (keyword (codes "auto"))
    ∷ row (codes "baseline-shift") in_both false (a_number_or (themselves (codes "baseline" ∷ codes "sub" ∷ codes "super" ∷ []))) (keyword (codes "baseline"))
    ∷ row (codes "gradientUnits") as_attribute false (exact_words (themselves (codes "userSpaceOnUse" ∷ codes "objectBoundingBox" ∷ []))) (keyword (codes "objectBoundingBox"))
    ∷ row (codes "gradientTransform") as_attribute false transform_list identity
    ∷ row (codes "spreadMethod") as_attribute false (exact_words (themselves (codes "pad" ∷ codes "reflect" ∷ codes "repeat" ∷ []))) (keyword (codes "pad"))
    ∷ row (codes "offset") as_attribute false a_number (number nought)
    ∷ row (codes "stop-color") in_both false a_color (color 0 0 0)
    ∷ row (codes "stop-opacity") in_both false a_number (number one)
    ∷ []

-- a name in no row: an attribute that is kept as it is
abbrev pub unknown : List ℕ → Property
unknown name = row name as_attribute false any_text none

abbrev found : List Property → List ℕ → Property
found [] name = unknown name
found (r ∷ rows) name = cond (bytes_eq name r.name) r (found rows name)

unfoldable pub property : List ℕ → Property
property name = found properties name

abbrev pub inherits : List ℕ → Bool
inherits name = (property name).inherited

-- the absent values, as read and as given
abbrev pub absent_read : List ℕ → Value ReadNumber
absent_read name = with_numbers left_out (property name).absent

abbrev pub absent_given : List ℕ → Value GivenNumber
absent_given name = with_numbers not_given (property name).absent
