-- Known texts: how each of these reads, and that none of the others has any reading. tools/xml-agree takes both lists from
-- this file and asks two XML parsers whether they agree.
use Rattle.std.specs.Prelude.{◌≡◌, ℕ, List, [], ◌∷◌, ◌++◌, codes}
use Rattle.std.proofs.Math.Utf8.{encodes}
use Rattle.markup.specs.declared.quotes.Quote.TheVariants.{Double, Single}
use Rattle.markup.specs.Attributes.{attribute}
use Rattle.markup.specs.Trees.{empty, element, Written, Read, characters}
use Rattle.markup.specs.Renderings.{render}
use Rattle.markup.specs.Readings.{Reading}

pub record Accepted : Type 0 where
  pub nothing : Reading [] empty
  pub both_quotes : Reading (codes "<a b='1\"' c = \"2'\" />") (element (codes "a") ((codes "b", codes "1\"") ∷ (codes "c", codes "2'") ∷ []) empty empty)
  pub ignored : Reading (codes "x<!-- - --><!----><?p q ??><?p?>y") (characters (codes "xy") empty)
  pub section : Reading (codes "<![CDATA[<&]]]]><![CDATA[>]]>") (characters (codes "<&]]>") empty)
  pub references : Reading (codes "&amp;&lt;&gt;&quot;&apos;&#65;&#x4a;&#x4A;&#x1F600;") (characters (codes "&<>\"'AJJ😀") empty)
  pub brackets : Reading (codes "a > b ]] c ]> ]]") (characters (codes "a > b ]] c ]> ]]") empty)
  pub white_space_in_values : Reading (codes "<a b=\"1" ++ (9 ∷ codes "2" ++ (10 ∷ codes "3&#9;&#10;&#13;\"/>"))) (element (codes "a") ((codes "b", codes "1 2 3" ++ (9 ∷ 10 ∷ 13 ∷ [])) ∷ []) empty empty)
  pub white_space_in_tags : Reading (codes "<a" ++ (10 ∷ codes "b" ++ (9 ∷ codes "='1'" ++ (10 ∷ codes ">x</a" ++ (10 ∷ codes ">"))))) (element (codes "a") ((codes "b", codes "1") ∷ []) (characters (codes "x") empty) empty)
  pub line_ends : Reading (codes "a" ++ (13 ∷ 10 ∷ codes "b" ++ (13 ∷ codes "c" ++ (10 ∷ 10 ∷ 13 ∷ 13 ∷ 10 ∷ codes "d")))) (characters (codes "a" ++ (10 ∷ codes "b" ++ (10 ∷ codes "c" ++ (10 ∷ 10 ∷ 10 ∷ 10 ∷ codes "d")))) empty)
  pub return_by_number : Reading (codes "a&#13;b" ++ (13 ∷ codes "&#10;c")) (characters (codes "a" ++ (13 ∷ codes "b" ++ (10 ∷ 10 ∷ codes "c"))) empty)
  pub other_letters : Reading (encodes (codes "<é ü='ß'>日本€</é>")) (element (codes "é") ((codes "ü", codes "ß") ∷ []) (characters (codes "日本€") empty) empty)
  pub names : Reading (codes "<_a-b.c1><B xml:id='i'/></_a-b.c1>") (element (codes "_a-b.c1") [] (element (codes "B") ((codes "xml:id", codes "i") ∷ []) empty empty) empty)
  pub nested : Reading (codes "<g><a/><a></a>t<g><b/></g></g>u") (element (codes "g") [] (element (codes "a") [] empty (element (codes "a") [] empty (characters (codes "t") (element (codes "g") [] (element (codes "b") [] empty empty) empty)))) (characters (codes "u") empty))
  pub instruction_like_xml : Reading (codes "<?xmlx y?><?xml-z?>") empty

abbrev pub rejected : List (List ℕ)
rejected =
    -- tags
    codes "<a>" ∷ codes "</a>" ∷ codes "<a></b>" ∷ codes "<a><b></a></b>" ∷ codes "<a></a" ∷ codes "<a" ∷ codes "<"
    ∷ codes "< a/>" ∷ codes "<a/ >" ∷ codes "<a/" ∷ codes "<a></ a>" ∷ codes "<a>< /a>" ∷ codes "<a></A>" ∷ codes "<1/>" ∷ codes "<-a/>" ∷ codes "<.a/>" ∷ codes "<a!/>" ∷ codes "<>" ∷ codes "</>"
    ∷ codes "a<b" ∷ codes "<a></a b='1'>"
    -- attributes
    ∷ codes "<a b/>" ∷ codes "<a b=/>" ∷ codes "<a b=1/>" ∷ codes "<a ='1'/>" ∷ codes "<a b='1/>" ∷ codes "<a b='1\"/>" ∷ codes "<a b='1' b='2'/>" ∷ codes "<a b='1' c='2' b=\"1\"/>" ∷ codes "<a b='1'c='2'/>"
    ∷ codes "<a b='<'/>" ∷ codes "<a b='&'/>" ∷ codes "<a b='&x;'/>" ∷ codes "<a b='1''/>" ∷ codes "<a 1b='1'/>" ∷ codes "<a&#32;b='1'/>" ∷ codes "<a b=='1'/>" ∷ codes "<a 'b'/>"
    -- character data and references
    ∷ codes "]]>" ∷ codes "a]]]>b" ∷ codes "&" ∷ codes "&;" ∷ codes "& amp;" ∷ codes "&amp" ∷ codes "&amp ;" ∷ codes "&nbsp;" ∷ codes "&AMP;" ∷ codes "&#;" ∷ codes "&#x;" ∷ codes "&#X41;" ∷ codes "&#4a;" ∷ codes "&#x4g;" ∷ codes "&# 65;"
    ∷ codes "&#0;" ∷ codes "&#8;" ∷ codes "&#x1F;" ∷ codes "&#xD800;" ∷ codes "&#xDFFF;" ∷ codes "&#xFFFE;" ∷ codes "&#x110000;" ∷ codes "&amp&amp;"
    -- comments, instructions, sections
    ∷ codes "<!-- a -- b -->" ∷ codes "<!-- a --->" ∷ codes "<!--->" ∷ codes "<!-->" ∷ codes "<!-- a" ∷ codes "<!- a -->" ∷ codes "<?xml version='1.0'?>" ∷ codes "<?XmL a?>" ∷ codes "<?xml?>" ∷ codes "<? p?>" ∷ codes "<?p" ∷ codes "<?p>" ∷ codes "<??>" ∷ codes "<?p!?>"
    ∷ codes "<![CDATA[a" ∷ codes "<![CDATA[a]]" ∷ codes "<![cdata[a]]>" ∷ codes "<![CDATA [a]]>" ∷ codes "<![CDATA[a]]>]]>" ∷ codes "<!DOCTYPE a>" ∷ codes "<!ENTITY a 'b'>" ∷ codes "<!>"
    -- characters that are none, and bytes that are no UTF-8
    ∷ (0 ∷ []) ∷ (8 ∷ []) ∷ (11 ∷ []) ∷ (31 ∷ []) ∷ (codes "<a b='" ++ (1 ∷ codes "'/>")) ∷ (codes "<!--" ++ (12 ∷ codes "-->")) ∷ encodes (0xFFFE ∷ []) ∷ encodes (0xFFFF ∷ [])
    ∷ (0x80 ∷ []) ∷ (0xFF ∷ []) ∷ (0xC3 ∷ []) ∷ (0xC0 ∷ 0x80 ∷ []) ∷ (0xC1 ∷ 0xBF ∷ []) ∷ (0xE2 ∷ 0x82 ∷ []) ∷ (0xE0 ∷ 0x80 ∷ 0x80 ∷ []) ∷ (0xED ∷ 0xA0 ∷ 0x80 ∷ []) ∷ (0xF0 ∷ 0x80 ∷ 0x80 ∷ 0x80 ∷ []) ∷ (0xF4 ∷ 0x90 ∷ 0x80 ∷ 0x80 ∷ []) ∷ (0xC3 ∷ codes "a") ∷ []

abbrev pub NoReading : List (List ℕ) → Type 0
NoReading [] = Unit {0}
NoReading (bytes ∷ more) = ((m : Read) → Reading bytes m → ⊥) × NoReading more

-- a forest and its rendering, with both quotes
abbrev pub sample : Written
sample =
    element (codes "g") (attribute Double (codes "id") (codes "p-m") ∷ [])
    (element (codes "path") (attribute Single (codes "d") (codes "M 0 0") ∷ attribute Double (codes "fill") (codes "\"a\" & 'b'") ∷ attribute Single (codes "x") (codes "\"<'>") ∷ []) empty
    (characters (codes "x < y > z" ++ (13 ∷ [])) empty))
    empty

pub record Samples : Type 0 where
  pub accepted : Accepted
  pub none : NoReading rejected
  pub rendered : render sample [] ≡ codes "<g id=\"p-m\"><path d='M 0 0' fill=\"&quot;a&quot; &amp; 'b'\" x='\"&lt;&apos;>'/>x &lt; y &gt; z&#13;</g>"
