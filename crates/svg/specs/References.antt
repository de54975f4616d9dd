-- References: url(#id), url("#id") and url('#id') of CSS, several of them, and the links of xlink:href.
-- A url(..) that leaves the document is not read here, and neither is one without quotes that has an escape.
use Rattle.std.specs.Prelude.{ℕ, Bool, true, false, cond, not, ◌||◌, List, [], ◌∷◌, Some, None, codes, Option, ◌==◌, nat_le}
use Rattle.svg.specs.Values.{Value, keyword, none, reference, references, text, ReadNumber}
use Rattle.svg.specs.Texts.{taken, left, skip_white, at_end, behind, behind_word, then, or_else, only_if, Taken}
use Rattle.svg.specs.Lists.{items_of, at_least_one, something}
use Rattle.svg.specs.Words.{Table, from_table}
use Rattle.svg.specs.Colors.{any_color}
use Rattle.svg.specs.Strings.{is_quote, plain, take_string}

-- a character of an address without quotes: no quote, bracket, backslash, white space or control character
abbrev pub in_address : ℕ → Bool
in_address c = not (nat_le c 32 || (c == 34 || (c == 39 || (c == 40 || (c == 41 || (c == 92 || c == 127))))))

abbrev pub take_address : List ℕ → Taken (List ℕ)
take_address [] = None
take_address (c ∷ cs) = cond (is_quote c) (take_string c plain cs) (Some (taken in_address (c ∷ cs), left in_address (c ∷ cs)))

-- url( .. ), and the text behind it
abbrev pub closed_by_bracket : List ℕ × List ℕ → Taken (List ℕ)
closed_by_bracket a = then (behind (codes ")") (skip_white a.1)) (λ rest. Some (a.0, rest))

abbrev pub take_url : List ℕ → Taken (List ℕ)
take_url t = then (behind_word (codes "url(") t) (λ u. then (take_address (skip_white u)) closed_by_bracket)

-- the id of an address in this document: behind a number sign, and not empty
abbrev pub local : List ℕ → Option (List ℕ)
local address = then (behind (codes "#") address) something

abbrev pub take_reference : List ℕ → Taken (List ℕ)
take_reference t = then (take_url t) (λ u. then (local u.0) (λ id. Some (id, u.1)))

-- one reference, with white space around it
abbrev pub a_reference : List ℕ → Option (Value ReadNumber)
a_reference t = then (take_reference (skip_white t)) (λ r. only_if (at_end r.1) (Some (reference r.0)))

-- several, or one
abbrev pub reference_item : List ℕ → Taken (List ℕ)
reference_item t = then (take_reference t) (λ r. Some (r.0, skip_white r.1))

abbrev pub a_reference_list : List ℕ → Option (Value ReadNumber)
a_reference_list t = then (then (items_of reference_item t) at_least_one) (λ ids. Some (references ids))

-- ---- paint

-- behind a reference may stand what to paint with where it leads nowhere: none or a colour
abbrev pub is_some : {X : Type 0} → Option X → Bool
is_some None = false
is_some (Some x) = true

abbrev pub paint_words : Table
paint_words = (codes "none", none) ∷ (codes "context-fill", keyword (codes "context-fill")) ∷ (codes "context-stroke", keyword (codes "context-stroke")) ∷ []

abbrev pub fallback : List ℕ → Bool
fallback t = at_end t || (is_some (any_color t) || is_some (from_table ((codes "none", none) ∷ []) t))

abbrev pub a_paint_reference : List ℕ → Option (Value ReadNumber)
a_paint_reference t = then (take_reference (skip_white t)) (λ r. only_if (fallback r.1) (Some (reference r.0)))

abbrev pub a_paint : List ℕ → Option (Value ReadNumber)
a_paint t = or_else (a_paint_reference t) (or_else (any_color t) (from_table paint_words t))

-- ---- links

-- #id is a reference, any other text is a link that leaves the document
abbrev pub a_link : List ℕ → Value ReadNumber
a_link [] = text []
a_link (c ∷ cs) = cond (c == 35) (reference cs) (text (c ∷ cs))
