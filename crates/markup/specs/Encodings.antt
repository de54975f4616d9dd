-- Writers escape bytes, and a forest is one of characters. Escaping the bytes of a text gives the bytes of the escaped text,
-- for values, texts, attributes and whole forests.
use Rattle.std.specs.Prelude.{◌≡◌, ℕ, List, map, IsUtf8, IsAscii}
use Rattle.std.proofs.Math.Utf8.{encodes}
use Rattle.std.specs.Str.{chars}
use Rattle.markup.specs.declared.quotes.Quote.{Quote}
use Rattle.markup.specs.Escapes.{value_then, text_then}
use Rattle.markup.specs.Attributes.{Attribute, attribute, attributes_then}
use Rattle.markup.specs.Trees.{Written, characters}
use Rattle.markup.specs.Renderings.{render, encoded_attribute, encoded}

pub record EscapesOfBytes : Type 0 where
  pub value : (q : Quote) (cs rest : List ℕ) → value_then q (encodes cs) (encodes rest) ≡ encodes (value_then q cs rest)
  pub text : (cs rest : List ℕ) → text_then (encodes cs) (encodes rest) ≡ encodes (text_then cs rest)
  pub attributes : (as_well : List Attribute) (rest : List ℕ) → attributes_then (map encoded_attribute as_well) (encodes rest) ≡ encodes (attributes_then as_well rest)
  pub forest : (m : Written) (rest : List ℕ) → render (encoded m) (encodes rest) ≡ encodes (render m rest)

-- bytes that are UTF-8 are those of the characters they decode to
pub record FromBytes : Type 0 where
  pub attribute : (q : Quote) (name bytes : List ℕ) → IsAscii name → IsUtf8 bytes → encoded_attribute (attribute q name (chars bytes)) ≡ attribute q name bytes
  pub text : (bytes : List ℕ) (more : Written) → IsUtf8 bytes → encoded (characters (chars bytes) more) ≡ characters bytes (encoded more)
