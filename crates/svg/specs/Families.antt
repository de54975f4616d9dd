-- Lists of font families: CSS Fonts. Families stand between commas. Each is a string, or identifiers with white space between
-- them, which name a family with one space between each two. An identifier without escapes is an optional hyphen, a letter, an
-- underscore or a character that is not ASCII, and then any number of these, digits and hyphens; one with escapes is not read
-- here. The five generic families are words in any letter case; inherit, initial, unset and default name no family.
use Rattle.std.specs.Prelude.{ℕ, Bool, true, false, cond, not, ◌&&◌, List, [], ◌∷◌, Some, None, codes, Option, ◌==◌}
use Rattle.std.specs.Str.{bytes_eq}
use Rattle.svg.specs.Values.{Value, families, Family, serif, sans_serif, cursive, fantasy, monospace, named, ReadNumber}
use Rattle.svg.specs.Texts.{lowers, starts_name, in_name, taken, left, skip_white, every, words, with_spaces, then, only_if, Taken}
use Rattle.svg.specs.Numbers.{is_one_of}
use Rattle.svg.specs.Lists.{items_of, at_least_one, something, with_rest}
use Rattle.svg.specs.Strings.{is_quote, plain, take_string}

abbrev pub begins_name : List ℕ → Bool
begins_name [] = false
begins_name (c ∷ cs) = starts_name c && every in_name cs

abbrev pub is_identifier : List ℕ → Bool
is_identifier [] = false
is_identifier (c ∷ cs) = cond (c == 45) (begins_name cs) (starts_name c && every in_name cs)

abbrev pub are_identifiers : List (List ℕ) → Bool
are_identifiers [] = true
are_identifiers (word ∷ more) = is_identifier word && are_identifiers more

-- the family that identifiers name, from their name as it is and in lower case
abbrev pub words_apart : List (List ℕ)
words_apart = codes "inherit" ∷ codes "initial" ∷ codes "unset" ∷ codes "default" ∷ []

abbrev pub called : List ℕ → List ℕ → Option Family
called name low =
    cond (bytes_eq (codes "serif") low) (Some serif)
    (cond (bytes_eq (codes "sans-serif") low) (Some sans_serif)
    (cond (bytes_eq (codes "cursive") low) (Some cursive)
    (cond (bytes_eq (codes "fantasy") low) (Some fantasy)
    (cond (bytes_eq (codes "monospace") low) (Some monospace)
    (only_if (not (is_one_of words_apart low)) (Some (named name)))))))

abbrev pub from_words : List (List ℕ) → Option Family
from_words [] = None
from_words (word ∷ more) = let name = with_spaces (word ∷ more) in only_if (are_identifiers (word ∷ more)) (called name (lowers name))

-- a family in front of a text: a string, or all up to a comma
abbrev pub no_comma : ℕ → Bool
no_comma c = not (c == 44)

abbrev pub take_words : List ℕ → Taken Family
take_words t = then (from_words (words (taken no_comma t))) (λ f. Some (f, left no_comma t))

abbrev pub take_quoted : ℕ → List ℕ → Taken Family
take_quoted quote t = then (take_string quote plain t) (λ s. Some (named s.0, s.1))

abbrev pub take_family : List ℕ → Taken Family
take_family [] = None
take_family (c ∷ cs) = cond (is_quote c) (take_quoted c cs) (take_words (c ∷ cs))

-- behind it: nothing, or a comma and more
abbrev pub after_one_comma : List ℕ → Option (List ℕ)
after_one_comma [] = Some []
after_one_comma (c ∷ cs) = only_if (c == 44) (something (skip_white cs))

abbrev pub family_item : List ℕ → Taken Family
family_item t = then (take_family t) (λ f. with_rest f.0 (after_one_comma (skip_white f.1)))

abbrev pub a_family_list : List ℕ → Option (Value ReadNumber)
a_family_list t = then (then (items_of family_item t) at_least_one) (λ fs. Some (families fs))
