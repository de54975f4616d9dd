-- An attribute is a space, its name, an equals sign and its value in quotes.
use Rattle.std.specs.Prelude.{ℕ, Bool, cond, List, [], ◌∷◌, ◌++◌}
use Rattle.markup.specs.declared.quotes.Quote.{Quote}
use Rattle.markup.specs.Escapes.{quote_mark, value_then}

pub record Attribute : Type 0 where
  pub quote : Quote
  pub name : List ℕ
  pub value : List ℕ

abbrev pub attribute : Quote → List ℕ → List ℕ → Attribute
attribute q name value = record { quote = q; name = name; value = value }

-- attributes in order, followed by what comes after
abbrev pub attributes_then : List Attribute → List ℕ → List ℕ
attributes_then [] rest = rest
attributes_then (a ∷ as_well) rest =
    32 ∷ (a.name ++ (61 ∷ quote_mark a.quote ∷ value_then a.quote a.value (quote_mark a.quote ∷ attributes_then as_well rest)))

-- an attribute that is left out where its value is plain
abbrev pub unless : Bool → Attribute → List Attribute
unless plain a = cond plain [] (a ∷ [])
