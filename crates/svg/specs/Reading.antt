-- How the attributes of an element are read: each as a property or attribute of its name, and the style attribute as
-- declarations. A declaration comes before an attribute, and of two declarations the later one counts.
use Rattle.std.specs.Prelude.{ℕ, Bool, true, false, cond, List, [], ◌∷◌, ◌++◌, reverse, codes}
use Rattle.std.specs.Str.{bytes_eq}
use Rattle.markup.specs.Trees.{Forest, Read, each}
use Rattle.svg.specs.Values.{Value, ReadNumber}
use Rattle.svg.specs.Properties.{property, Stands, as_attribute, in_style, in_both}
use Rattle.svg.specs.Cascade.{Given}
use Rattle.svg.specs.Syntaxes.{read_by}
use Rattle.svg.specs.Styles.{declarations}

-- the value that a text says for a property or attribute
unfoldable pub value_of : List ℕ → List ℕ → Value ReadNumber
value_of name t = read_by (property name).syntax t

abbrev pub may_be_attribute : Stands → Bool
may_be_attribute as_attribute = true
may_be_attribute in_style = false
may_be_attribute in_both = true

abbrev pub may_be_declared : Stands → Bool
may_be_declared as_attribute = false
may_be_declared in_style = true
may_be_declared in_both = true

abbrev pub is_style : List ℕ → Bool
is_style name = bytes_eq name (codes "style")

-- names and texts that may stand where they do, with their values
abbrev pub valued : (Stands → Bool) → List (List ℕ × List ℕ) → Given ReadNumber
valued may [] = []
valued may (a ∷ more) = cond (may (property a.0).stands) ((a.0, value_of a.0 a.1) ∷ valued may more) (valued may more)

-- the text of the style attribute, empty where there is none
abbrev pub style_text : List (List ℕ × List ℕ) → List ℕ
style_text [] = []
style_text (a ∷ more) = cond (is_style a.0) a.1 (style_text more)

abbrev pub without_style : List (List ℕ × List ℕ) → List (List ℕ × List ℕ)
without_style [] = []
without_style (a ∷ more) = cond (is_style a.0) (without_style more) (a ∷ without_style more)

abbrev pub read_attributes : List (List ℕ × List ℕ) → Given ReadNumber
read_attributes attributes =
    reverse (valued may_be_declared (declarations (style_text attributes)))
    ++ valued may_be_attribute (without_style attributes)

-- a whole forest
abbrev pub read : Read → Forest (Given ReadNumber)
read forest = each read_attributes forest
