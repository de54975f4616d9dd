-- Escaping the bytes of a text gives the bytes of the escaped text: only characters below U+0080 are escaped, and no byte of
-- another character is below 128.
use Rattle.std.proofs.Common.{◌≡◌, ℕ, ◌+◌, ◌/◌, ◌<◌, ◌≤◌, Bool, true, false, cond, T, eqb, ltb, leb, List, [], ◌∷◌, ◌++◌, map, sym, refl, ap, ◌∙◌, ap₂, arith, le→leb, ltb→lt, ltb-false}
use lib.Utf8.{encode, encodes, next}
use Rattle.std.proofs.lemmas.Str.{encodes-append, encode_ascii, encodes-IsAscii, encodes-chars}
use Rattle.std.specs.Str.{chars}
use Rattle.std.proofs.lemmas.List.{append-nil}
use Rattle.std.proofs.lemmas.Bool.Decides.{nat_tests}
use Rattle.markup.specs.declared.quotes.Quote.{Quote}
use Rattle.markup.specs.declared.quotes.Quote.TheVariants.{Double, Single}
use Rattle.markup.specs.Escapes.{quote_mark, escape_value, escape_text, value_then, text_then, escaped_then}
use Rattle.markup.specs.Attributes.{Attribute, attribute, attributes_then}
use Rattle.markup.specs.Characters.{ZeroOrMore}
use Rattle.markup.specs.Trees.{empty, character, element, Written, characters, is_empty}
use Rattle.markup.specs.Renderings.{tag_end, render, encoded_attribute, encoded}
use Rattle.markup.specs.Encodings.{EscapesOfBytes, FromBytes}
use Rattle.markup.proofs.Classes.{T_of}
use Rattle.markup.proofs.EscapesIn.{HasEscapes, value_in, text_in}

abbrev pub low : ℕ → Bool
low c = ltb c 128

abbrev high : ℕ → Bool
high c = leb 128 c

-- ASCII is its own encoding
pub encodes_low : (cs : List ℕ) → ZeroOrMore low cs → encodes cs ≡ cs
encodes_low [] h = refl
encodes_low (c ∷ cs) h = ap (λ z. z ++ encodes cs) (encode_ascii c (ltb→lt c 128 h.0)) ∙ ap (λ z. c ∷ z) (encodes_low cs h.1)

-- the bytes of any other character are high
encode_high : (c : ℕ) → ltb c 128 ≡ false → ZeroOrMore high (encode c)
unfolding encode
encode_high c e = rw e (go (ltb c 2048) (ltb c 65536))
  where
    lead : (k : ℕ) (n : ℕ) → 128 ≤ k → T (high (k + n))
    lead k n h = le→leb 128 (k + n) (omega arith)

    more : (n : ℕ) → T (high (next n))
    more n = le→leb 128 (next n) (omega arith)

    go : (x y : Bool) → ZeroOrMore high (cond x ((192 + c / 64) ∷ next c ∷ []) (cond y ((224 + c / 4096) ∷ next (c / 64) ∷ next c ∷ []) ((240 + c / 262144) ∷ next (c / 4096) ∷ next (c / 64) ∷ next c ∷ [])))
    go true y = (lead 192 (c / 64) (omega arith), (more c, tt))
    go false true = (lead 224 (c / 4096) (omega arith), (more (c / 64), (more c, tt)))
    go false false = (lead 240 (c / 262144) (omega arith), (more (c / 4096), (more (c / 64), (more c, tt))))

high_is_not : (b k : ℕ) → T (high b) → k < 128 → eqb b k ≡ false
high_is_not b k h l = grind (arith, nat_tests)

quote_low : (q : Quote) → quote_mark q < 128
quote_low Double = omega arith
quote_low Single = omega arith

-- Both escapes: what is high stands as it is, and an escape is ASCII

high_value : (q : Quote) (b : ℕ) → T (high b) → escape_value q b ≡ b ∷ []
high_value q b h =
    simp (high_is_not b 38 h (omega arith), high_is_not b 60 h (omega arith), high_is_not b (quote_mark q) h (quote_low q), high_is_not b 9 h (omega arith), high_is_not b 10 h (omega arith), high_is_not b 13 h (omega arith))

high_text : (b : ℕ) → T (high b) → escape_text b ≡ b ∷ []
high_text b h =
    simp (high_is_not b 38 h (omega arith), high_is_not b 60 h (omega arith), high_is_not b 62 h (omega arith), high_is_not b 13 h (omega arith))

low_escapes : HasEscapes low
low_escapes = record { amp = tt; lt = tt; gt = tt; quot = tt; apos = tt; tab = tt; feed = tt; return = tt }

low_value : (q : Quote) (c : ℕ) → T (low c) → ZeroOrMore low (escape_value q c)
low_value q c h = value_in low low_escapes q c (λ _. h)

low_text : (c : ℕ) → T (low c) → ZeroOrMore low (escape_text c)
low_text c h = text_in low low_escapes c (λ _. h)

-- Any escape of that kind, over a text, followed by what comes after
module _ (escape : ℕ → List ℕ) (highly : (b : ℕ) → T (high b) → escape b ≡ b ∷ []) (lowly : (c : ℕ) → T (low c) → ZeroOrMore low (escape c)) where
  all_append : (a b rest : List ℕ) → escaped_then escape (a ++ b) rest ≡ escaped_then escape a (escaped_then escape b rest)
  all_append [] b rest = refl
  all_append (c ∷ a) b rest = ap (λ z. escape c ++ z) (all_append a b rest)

  all_high : (bs rest : List ℕ) → ZeroOrMore high bs → escaped_then escape bs rest ≡ bs ++ rest
  all_high [] rest h = refl
  all_high (b ∷ bs) rest h = rw (highly b h.0, all_high bs rest h.1)

  one : (c : ℕ) (rest : List ℕ) → escaped_then escape (encode c) rest ≡ encodes (escape c) ++ rest
  one c rest = go (ltb c 128) refl
    where
      go : (b : Bool) → ltb c 128 ≡ b → escaped_then escape (encode c) rest ≡ encodes (escape c) ++ rest
      go true e = rw (encode_ascii c (ltb→lt c 128 (T_of e)), encodes_low (escape c) (lowly c (T_of e)))
      go false e =
          let h : T (high c) = le→leb 128 c (ltb-false c 128 e) in
          rw (all_high (encode c) rest (encode_high c e), highly c h, append-nil)

  pub all_encoded : (cs rest : List ℕ) → escaped_then escape (encodes cs) (encodes rest) ≡ encodes (escaped_then escape cs rest)
  all_encoded [] rest = refl
  all_encoded (c ∷ cs) rest = rw (all_append (encode c) (encodes cs) (encodes rest), all_encoded cs rest, one, encodes-append)

pub value_encoded : (q : Quote) (cs rest : List ℕ) → value_then q (encodes cs) (encodes rest) ≡ encodes (value_then q cs rest)
value_encoded q = all_encoded (escape_value q) (high_value q) (low_value q)

pub text_encoded : (cs rest : List ℕ) → text_then (encodes cs) (encodes rest) ≡ encodes (text_then cs rest)
text_encoded = all_encoded escape_text high_text low_text

-- Attributes and forests

encodes_quote : (q : Quote) (rest : List ℕ) → encodes (quote_mark q ∷ rest) ≡ quote_mark q ∷ encodes rest
encodes_quote q rest = ap (λ z. z ++ encodes rest) (encode_ascii (quote_mark q) (quote_low q))

encodes_ascii_front : (c : ℕ) (rest : List ℕ) → c < 128 → encodes (c ∷ rest) ≡ c ∷ encodes rest
encodes_ascii_front c rest h = ap (λ z. z ++ encodes rest) (encode_ascii c h)

pub attributes_encoded : (ps : List Attribute) (rest : List ℕ) → attributes_then (map encoded_attribute ps) (encodes rest) ≡ encodes (attributes_then ps rest)
attributes_encoded [] rest = refl
attributes_encoded (p ∷ ps) rest =
    let q = p.quote in
    let m = quote_mark q in
    let v = value_then q p.value (m ∷ attributes_then ps rest) in
    rw (
      attributes_encoded ps rest,
      ← encodes_quote q (attributes_then ps rest),
      value_encoded q p.value (m ∷ attributes_then ps rest),
      encodes_ascii_front 32 (p.name ++ (61 ∷ m ∷ v)) (omega arith),
      encodes-append p.name (61 ∷ m ∷ v),
      encodes_ascii_front 61 (m ∷ v) (omega arith),
      encodes_quote q v,
    )

pub characters_render : (cs : List ℕ) (m : Written) (rest : List ℕ) → render (characters cs m) rest ≡ text_then cs (render m rest)
characters_render [] m rest = refl
characters_render (c ∷ cs) m rest = ap (λ z. escape_text c ++ z) (characters_render cs m rest)

pub encoded_empty : (m : Written) → is_empty (encoded m) ≡ is_empty m
unfolding encode
encoded_empty empty = refl
encoded_empty (character c m) = go (ltb c 128) (ltb c 2048) (ltb c 65536)
  where
    go : (x y z : Bool) → is_empty (characters (cond x (c ∷ []) (cond y ((192 + c / 64) ∷ next c ∷ []) (cond z ((224 + c / 4096) ∷ next (c / 64) ∷ next c ∷ []) ((240 + c / 262144) ∷ next (c / 4096) ∷ next (c / 64) ∷ next c ∷ [])))) (encoded m)) ≡ false
    go true y z = refl
    go false true z = refl
    go false false true = refl
    go false false false = refl
encoded_empty (element n ps k m) = refl

tag_end_encoded : (b : Bool) (x y : List ℕ) → tag_end b (encodes x) (encodes y) ≡ encodes (tag_end b x y)
unfolding encode
tag_end_encoded true x y = refl
tag_end_encoded false x y = refl

end_tag_encoded : (n rest : List ℕ) → 60 ∷ 47 ∷ (encodes n ++ (62 ∷ encodes rest)) ≡ encodes (60 ∷ 47 ∷ (n ++ (62 ∷ rest)))
unfolding encode
end_tag_encoded n rest = ap (λ z. 60 ∷ 47 ∷ z) (sym (encodes-append n (62 ∷ rest)))

pub render_encoded : (m : Written) (rest : List ℕ) → render (encoded m) (encodes rest) ≡ encodes (render m rest)
render_encoded empty rest = refl
render_encoded (character c m) rest =
    characters_render (encode c) (encoded m) (encodes rest)
    ∙ ap (text_then (encode c)) (render_encoded m rest)
    ∙ ap (λ z. text_then z (encodes (render m rest))) (sym (append-nil (encode c)))
    ∙ text_encoded (c ∷ []) (render m rest)
render_encoded (element n ps k m) rest =
    let more = render m rest in
    let end = 60 ∷ 47 ∷ (n ++ (62 ∷ more)) in
    let tail = tag_end (is_empty k) more (render k end) in
    rw (
      render_encoded m rest,
      end_tag_encoded n more,
      render_encoded k end,
      encoded_empty k,
      tag_end_encoded (is_empty k) more (render k end),
      attributes_encoded ps tail,
      encodes_ascii_front 60 (n ++ attributes_then ps tail) (omega arith),
      encodes-append n (attributes_then ps tail),
    )

pub escapes_of_bytes : EscapesOfBytes
escapes_of_bytes = record { value = value_encoded; text = text_encoded; attributes = attributes_encoded; forest = render_encoded }

-- Bytes that are UTF-8

characters_append : (a b : List ℕ) (m : Written) → characters (a ++ b) m ≡ characters a (characters b m)
characters_append [] b m = refl
characters_append (c ∷ a) b m = ap (character c) (characters_append a b m)

pub characters_encoded : (cs : List ℕ) (m : Written) → encoded (characters cs m) ≡ characters (encodes cs) (encoded m)
characters_encoded [] m = refl
characters_encoded (c ∷ cs) m = ap (characters (encode c)) (characters_encoded cs m) ∙ sym (characters_append (encode c) (encodes cs) (encoded m))

pub from_bytes : FromBytes
from_bytes =
    record {
      attribute = λ q name bytes a u. ap₂ (attribute q) (encodes-IsAscii name a) (encodes-chars bytes u);
      text = λ bytes more u. characters_encoded (chars bytes) more ∙ ap (λ z. characters z (encoded more)) (encodes-chars bytes u);
    }
