-- Content of XML 1.0 (fifth edition), production 43, whole: what it spells, when it is well-formed, and what it means.
use Rattle.std.specs.Prelude.{◌≡◌, ℕ, ◌+◌, cond, List, [], ◌∷◌, ◌++◌, map, codes, ◌≢◌, nat_lt}
use Rattle.markup.specs.Characters.{ZeroOrMore, Name, Without, Distinct, is_char, is_space, is_data}
use Rattle.markup.specs.Trees.{empty, character, element, Read, characters}
use Rattle.markup.specs.CharacterReferences.{Reference, reference_then, referred, ReferenceStands}
use Rattle.markup.specs.AttributeSpecifications.{Specification, specifications_then, SpecificationsStand, specified_names, specified}

-- [14] CharData ::= [^<&]* - ([^<&]* ']]>' [^<&]*)
abbrev pub CharData : List ℕ → Type 0
CharData d = ZeroOrMore is_data d × Without (codes "]]>") d

-- [18] CDSect ::= CDStart CData CDEnd, with [19] CDStart ::= '<![CDATA[' and [21] CDEnd ::= ']]>'
-- [20] CData ::= (Char* - (Char* ']]>' Char*))
abbrev pub CData : List ℕ → Type 0
CData d = ZeroOrMore is_char d × Without (codes "]]>") d

-- [15] Comment ::= '<!--' ((Char - '-') | ('-' (Char - '-')))* '-->': no two hyphens in a row, and none at the end
abbrev pub CommentText : List ℕ → Type 0
CommentText d = ZeroOrMore is_char d × Without (codes "--") (d ++ codes "-")

-- [16] PI ::= '<?' PITarget (S (Char* - (Char* '?>' Char*)))? '?>'
-- [17] PITarget ::= Name - (('X' | 'x') ('M' | 'm') ('L' | 'l'))
pub record PI : Type 0 where
  pub target : List ℕ
  pub space : List ℕ
  pub text : List ℕ

abbrev pub small_letter : ℕ → ℕ
small_letter c = cond (nat_lt 0x40 c) (cond (nat_lt c 0x5B) (c + 0x20) c) c

abbrev pub PITarget : List ℕ → Type 0
PITarget target = Name target × (map small_letter target ≢ codes "xml")

-- a text stands only after white space
abbrev pub PIText : List ℕ → List ℕ → Type 0
PIText [] text = text ≡ []
PIText (s ∷ space) text = ZeroOrMore is_space (s ∷ space) × ZeroOrMore is_char text × Without (codes "?>") text

-- [40] STag ::= '<' Name (S Attribute)* S? '>'
-- [44] EmptyElemTag ::= '<' Name (S Attribute)* S? '/>'
-- a tag is what stands between `<` and `>` or `/>`
pub record Tag : Type 0 where
  pub name : List ℕ
  pub attributes : List Specification
  pub space : List ℕ

-- `<`, a tag, and what comes after: its end first
abbrev pub tag_then : Tag → List ℕ → List ℕ
tag_then tag rest = codes "<" ++ (tag.name ++ specifications_then tag.attributes (tag.space ++ rest))

-- with WFC: Unique Att Spec; WFC: No < in Attribute Values is in the characters of AttValue, and entities hold none
abbrev pub TagStands : Tag → Type 0
TagStands tag =
    Name tag.name × SpecificationsStand tag.attributes × Distinct (specified_names tag.attributes) × ZeroOrMore is_space tag.space

-- [42] ETag ::= '</' Name S? '>'
pub record ETag : Type 0 where
  pub name : List ℕ
  pub space : List ℕ

abbrev pub end_tag_then : ETag → List ℕ → List ℕ
end_tag_then tag rest = codes "</" ++ (tag.name ++ (tag.space ++ (codes ">" ++ rest)))

-- WFC: Element Type Match
abbrev pub ETagStands : List ℕ → ETag → Type 0
ETagStands name tag = (tag.name ≡ name) × ZeroOrMore is_space tag.space

-- [43] content ::= CharData? ((element | Reference | CDSect | PI | Comment) CharData?)*
-- [39] element ::= EmptyElemTag | STag content ETag
-- said as: CharData? alone, or CharData? and one of the items and then content
pub data Content : Type 0 where
  char_data : List ℕ → Content
  reference : List ℕ → Reference → Content → Content
  cdata_section : List ℕ → List ℕ → Content → Content
  instruction : List ℕ → PI → Content → Content
  comment : List ℕ → List ℕ → Content → Content
  empty_tag : List ℕ → Tag → Content → Content
  tagged : List ℕ → Tag → Content → ETag → Content → Content

-- the characters that content stands for, followed by what comes after
abbrev pub yield : Content → List ℕ → List ℕ
yield (char_data d) rest = d ++ rest
yield (reference d r more) rest = d ++ reference_then r (yield more rest)
yield (cdata_section d text more) rest = d ++ (codes "<![CDATA[" ++ (text ++ (codes "]]>" ++ yield more rest)))
yield (instruction d pi more) rest = d ++ (codes "<?" ++ (pi.target ++ (pi.space ++ (pi.text ++ (codes "?>" ++ yield more rest)))))
yield (comment d text more) rest = d ++ (codes "<!--" ++ (text ++ (codes "-->" ++ yield more rest)))
yield (empty_tag d tag more) rest = d ++ tag_then tag (codes "/>" ++ yield more rest)
yield (tagged d tag children end more) rest = d ++ tag_then tag (codes ">" ++ yield children (end_tag_then end (yield more rest)))

abbrev pub ContentStands : Content → Type 0
ContentStands (char_data d) = CharData d
ContentStands (reference d r more) = CharData d × ReferenceStands r × ContentStands more
ContentStands (cdata_section d text more) = CharData d × CData text × ContentStands more
ContentStands (instruction d pi more) = CharData d × PITarget pi.target × PIText pi.space pi.text × ContentStands more
ContentStands (comment d text more) = CharData d × CommentText text × ContentStands more
ContentStands (empty_tag d tag more) = CharData d × TagStands tag × ContentStands more
ContentStands (tagged d tag children end more) =
    CharData d × TagStands tag × ContentStands children × ETagStands tag.name end × ContentStands more

-- comments and processing instructions mean nothing here; a CDATA section means its characters
abbrev pub meaning : Content → Read
meaning (char_data d) = characters d empty
meaning (reference d r more) = characters d (character (referred r) (meaning more))
meaning (cdata_section d text more) = characters d (characters text (meaning more))
meaning (instruction d pi more) = characters d (meaning more)
meaning (comment d text more) = characters d (meaning more)
meaning (empty_tag d tag more) = characters d (element tag.name (specified tag.attributes) empty (meaning more))
meaning (tagged d tag children end more) = characters d (element tag.name (specified tag.attributes) (meaning children) (meaning more))
