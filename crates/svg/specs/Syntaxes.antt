-- How the text of a property or an attribute is read, by its syntax. What a syntax does not take is unread. Properties of CSS
-- also take inherit, initial and unset.
use Rattle.std.specs.Prelude.{ℕ, Bool, not, ◌&&◌, List, [], ◌∷◌, Some, None, codes, Option, nat_lt}
use Rattle.drawing.specs.Tables.{nought}
use Rattle.svg.specs.Values.{Value, number, weight, keyword, text, unread, ReadNumber, said}
use Rattle.svg.specs.Properties.{Syntax, any_text, a_number, dashes, offset_list, spacing, a_number_or, font_weight, css_words, exact_words, paint, a_color, func_iri, func_iri_list, iri, transform_list, family_list, path_data}
use Rattle.svg.specs.Texts.{skip_white, is_empty, at_end, then, or_else, only_if}
use Rattle.svg.specs.Numbers.{Numeral, count, take_number, a_length}
use Rattle.svg.specs.Lists.{an_offset_list, dash_lengths}
use Rattle.svg.specs.Words.{Table, from_table, a_css_word, an_exact_word, a_wide_word, the_word_none}
use Rattle.svg.specs.Colors.{any_color}
use Rattle.svg.specs.References.{a_reference, a_reference_list, a_paint, a_link}
use Rattle.svg.specs.Transforms.{a_transform_list}
use Rattle.svg.specs.Families.{a_family_list}
use Rattle.svg.specs.PathData.{a_path}

-- letter-spacing and word-spacing: normal is 0
abbrev pub a_spacing_word : List ℕ → Option (Value ReadNumber)
a_spacing_word t = from_table ((codes "normal", number (said nought)) ∷ []) t

-- ---- font-weight

abbrev pub weight_words : Table
weight_words = (codes "normal", weight 400) ∷ (codes "bold", weight 700) ∷ (codes "bolder", keyword (codes "bolder")) ∷ (codes "lighter", keyword (codes "lighter")) ∷ []

-- a whole number, here of any size below 65536
abbrev pub is_whole : Numeral → Bool
is_whole n = not n.minus && (is_empty n.fraction && is_empty n.exponent)

abbrev pub weighed : Numeral × List ℕ → Option (Value ReadNumber)
weighed n = only_if (is_whole n.0 && (at_end n.1 && nat_lt (count n.0.whole) 65536)) (Some (weight (count n.0.whole)))

abbrev pub a_weight : List ℕ → Option (Value ReadNumber)
a_weight t = or_else (then (take_number (skip_white t)) weighed) (from_table weight_words t)

-- ---- the reading

abbrev pub told : Option (Value ReadNumber) → Value ReadNumber
told None = unread
told (Some value) = value

-- a property's own value, or a word that every property takes
abbrev pub styled : Option (Value ReadNumber) → List ℕ → Value ReadNumber
styled own t = told (or_else own (a_wide_word t))

abbrev pub read_by : Syntax → List ℕ → Value ReadNumber
read_by any_text t = text t
read_by a_number t = styled (a_length t) t
read_by dashes t = styled (or_else (dash_lengths t) (the_word_none t)) t
read_by offset_list t = told (an_offset_list t)
read_by spacing t = styled (or_else (a_length t) (a_spacing_word t)) t
read_by (a_number_or words) t = styled (or_else (a_length t) (a_css_word words t)) t
read_by font_weight t = styled (a_weight t) t
read_by (css_words words) t = styled (a_css_word words t) t
read_by (exact_words words) t = told (an_exact_word words t)
read_by paint t = styled (a_paint t) t
read_by a_color t = styled (any_color t) t
read_by func_iri t = styled (or_else (a_reference t) (the_word_none t)) t
read_by func_iri_list t = styled (or_else (a_reference_list t) (the_word_none t)) t
read_by iri t = a_link t
read_by transform_list t = told (a_transform_list t)
read_by family_list t = styled (a_family_list t) t
read_by path_data t = told (a_path t)
