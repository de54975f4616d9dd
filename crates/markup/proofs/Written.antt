-- Parts of what is written: escaped texts one after another, and attributes.
use Rattle.std.proofs.Common.{◌≡◌, ℕ, ◌+◌, ◌<◌, List, [], ◌∷◌, ◌++◌, length, take, get_or, sym, refl, ap}
use Rattle.std.proofs.lemmas.List.{append_assoc, append-nil, take_more}
use Rattle.markup.specs.Pens.{PenState, step, after}
use Rattle.markup.specs.declared.quotes.Quote.{Quote}
use Rattle.markup.specs.Escapes.{quote_mark, escape_value, value_then, escaped_then, after_escaped}
use Rattle.markup.specs.Attributes.{Attribute, attribute, attributes_then}
use Rattle.markup.proofs.Chains.{after_after, parts}

-- what comes after stands after
pub escaped_rest : (f : ℕ → List ℕ) (cs rest : List ℕ) → escaped_then f cs rest ≡ escaped_then f cs [] ++ rest
escaped_rest f [] rest = refl
escaped_rest f (c ∷ cs) rest = rw (escaped_rest f cs rest, append_assoc)

-- a text in two parts
pub escaped_join : (f : ℕ → List ℕ) (first second : List ℕ) → escaped_then f (first ++ second) [] ≡ escaped_then f first [] ++ escaped_then f second []
escaped_join f [] second = refl
escaped_join f (c ∷ first) second = rw (escaped_join f first second, append_assoc)

-- A pen that writes one part after another

pub escaped_none : (s : PenState) (f : ℕ → List ℕ) → after_escaped s f [] ≡ s
unfolding after_escaped
escaped_none s f = refl

pub escaped_two : (s : PenState) (f : ℕ → List ℕ) (first second : List ℕ) → after_escaped (after_escaped s f first) f second ≡ after_escaped s f (first ++ second)
unfolding after_escaped
escaped_two s f first second = rw (after_after, escaped_join f first second)

pub escaped_three : (s : PenState) (f : ℕ → List ℕ) (first second third : List ℕ) →
    after_escaped (after_escaped (after_escaped s f first) f second) f third ≡ after_escaped s f (first ++ (second ++ third))
escaped_three s f first second third = rw (escaped_two s f first second, escaped_two, append_assoc)

-- one byte more
pub escaped_more : (s : PenState) (f : ℕ → List ℕ) (bytes : List ℕ) (i d : ℕ) → i < length bytes →
    after (after_escaped s f (take i bytes)) (f (get_or bytes i d)) ≡ after_escaped s f (take (i + 1) bytes)
unfolding after_escaped
escaped_more s f bytes i d h = rw (take_more bytes i d h, escaped_join f (take i bytes) (get_or bytes i d ∷ []), append-nil, after_after)

-- an attribute, part by part
pub attribute_written : (s : PenState) (q : Quote) (name value : List ℕ) →
    step (after_escaped (step (step (after (step s 32) name) 61) (quote_mark q)) (escape_value q) value) (quote_mark q)
    ≡ after s (attributes_then (attribute q name value ∷ []) [])
unfolding after_escaped
attribute_written s q name value =
    let m = quote_mark q in
    let whole = ap (λ xs. 32 ∷ (name ++ (61 ∷ m ∷ xs))) (sym (escaped_rest (escape_value q) value (m ∷ []))) in
    parts s ((32 ∷ []) ∷ name ∷ (61 ∷ m ∷ []) ∷ value_then q value [] ∷ (m ∷ []) ∷ []) _ whole

-- attributes one list after another
pub attributes_rest : (as_well : List Attribute) (rest : List ℕ) → attributes_then as_well rest ≡ attributes_then as_well [] ++ rest
attributes_rest [] rest = refl
attributes_rest (a ∷ more) rest =
    let f = escape_value a.quote in
    let m = quote_mark a.quote in
    let value = escaped_then f a.value [] in
    let end = m ∷ attributes_then more [] in
    rw (escaped_rest f a.value (m ∷ attributes_then more rest), attributes_rest more rest, escaped_rest f a.value end, append_assoc a.name (61 ∷ m ∷ (value ++ end)) rest, append_assoc value end rest)

pub attributes_join : (first second : List Attribute) (rest : List ℕ) → attributes_then (first ++ second) rest ≡ attributes_then first (attributes_then second rest)
attributes_join [] second rest = refl
attributes_join (a ∷ first) second rest = rw (attributes_join first second rest)
