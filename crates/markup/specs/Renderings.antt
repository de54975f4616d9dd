-- How a forest is written. An element without children ends in `/>`, any other in `</name>`.
use Rattle.std.specs.Prelude.{ℕ, Bool, true, false, List, [], ◌++◌, map, codes}
use Rattle.std.proofs.Math.Utf8.{encode, encodes}
use Rattle.markup.specs.Escapes.{escape_text}
use Rattle.markup.specs.Attributes.{Attribute, attribute, attributes_then}
use Rattle.markup.specs.Trees.{empty, character, element, Written, characters, is_empty}

-- what follows the attributes, for an element without children and for one with children
abbrev pub tag_end : Bool → List ℕ → List ℕ → List ℕ
tag_end true childless parent = codes "/>" ++ childless
tag_end false childless parent = codes ">" ++ parent

-- a forest, followed by what comes after
abbrev pub render : Written → List ℕ → List ℕ
render empty rest = rest
render (character c more) rest = escape_text c ++ render more rest
render (element name attributes children more) rest =
    codes "<" ++ (name ++ attributes_then attributes
    (tag_end (is_empty children) (render more rest)
    (render children (codes "</" ++ (name ++ (codes ">" ++ render more rest))))))

-- the bytes: UTF-8
abbrev pub written : Written → List ℕ
written forest = encodes (render forest [])

-- The same forest with the bytes of its texts in place of their characters. Writers work on these.

abbrev pub encoded_attribute : Attribute → Attribute
encoded_attribute a = attribute a.quote (encodes a.name) (encodes a.value)

abbrev pub encoded : Written → Written
encoded empty = empty
encoded (character c more) = characters (encode c) (encoded more)
encoded (element name attributes children more) = element (encodes name) (map encoded_attribute attributes) (encoded children) (encoded more)
