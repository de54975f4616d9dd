-- The readings of the known texts, each with its content written out; and that the others have none, by the machine.
use Rattle.std.proofs.Common.{◌≡◌, ℕ, Bool, true, false, not, ◌&&◌, T, List, [], ◌∷◌, ◌++◌, codes, refl}
use lib.Utf8.{encode, encodes, scalars}
use Rattle.std.specs.Str.{chars}
use Rattle.markup.specs.declared.quotes.Quote.{Quote}
use Rattle.markup.specs.declared.quotes.Quote.TheVariants.{Double, Single}
use Rattle.markup.specs.CharacterReferences.{amp, lt, gt, quot, apos, entity_ref, decimal_ref, hexadecimal_ref}
use Rattle.markup.specs.AttributeSpecifications.{ValuePiece, literal, referring, Specification}
use Rattle.markup.specs.Content.{PI, Tag, ETag, Content, char_data, reference, cdata_section, instruction, comment, empty_tag, tagged, yield, meaning}
use Rattle.markup.specs.Readings.{normal_line_ends, Reading}
use Rattle.markup.specs.Samples.{Accepted, rejected, NoReading, Samples}
use Rattle.markup.proofs.Classes.{both}
use Rattle.markup.proofs.ContentChecks.{is_content, content_stands}
use Rattle.markup.proofs.Recognizer.{plausible}
use Rattle.markup.proofs.Recognized.{no_reading}

-- content for a text, checked by computing
known : (text : List ℕ) (t : Content) → scalars text ≡ true → yield t [] ≡ normal_line_ends false text → T (is_content t) → Reading (encodes text) (meaning t)
known text t u s h = record { text = text; unicode = u; utf8 = refl; content = t; spells = s; stands = content_stands t h; means = refl }

abbrev pieces : List ℕ → List ValuePiece → List ValuePiece
pieces [] more = more
pieces (c ∷ cs) more = literal c ∷ pieces cs more

abbrev spec : List ℕ → List ℕ → List ℕ → List ℕ → Quote → List ValuePiece → Specification
spec s n s1 s2 q v = record { space = s; name = n; space_before_equals = s1; space_after_equals = s2; quote = q; value = v }

abbrev tag : List ℕ → List Specification → List ℕ → Tag
tag n ss s = record { name = n; attributes = ss; space = s }

abbrev end : List ℕ → List ℕ → ETag
end n s = record { name = n; space = s }

abbrev pi : List ℕ → List ℕ → List ℕ → PI
pi n s d = record { target = n; space = s; text = d }

abbrev sp : List ℕ
sp = codes " "

accepted : Accepted
unfolding encode
accepted =
    record {
      nothing = known [] (char_data []) refl refl tt;
      both_quotes = known (codes "<a b='1\"' c = \"2'\" />") (empty_tag [] (tag (codes "a") (spec sp (codes "b") [] [] Single (pieces (codes "1\"") []) ∷ spec sp (codes "c") sp sp Double (pieces (codes "2'") []) ∷ []) sp) (char_data [])) refl refl tt;
      ignored = known (codes "x<!-- - --><!----><?p q ??><?p?>y") (comment (codes "x") (codes " - ") (comment [] [] (instruction [] (pi (codes "p") sp (codes "q ?")) (instruction [] (pi (codes "p") [] []) (char_data (codes "y")))))) refl refl tt;
      section = known (codes "<![CDATA[<&]]]]><![CDATA[>]]>") (cdata_section [] (codes "<&]]") (cdata_section [] (codes ">") (char_data []))) refl refl tt;
      references = known (codes "&amp;&lt;&gt;&quot;&apos;&#65;&#x4a;&#x4A;&#x1F600;") (reference [] (entity_ref amp) (reference [] (entity_ref lt) (reference [] (entity_ref gt) (reference [] (entity_ref quot) (reference [] (entity_ref apos) (reference [] (decimal_ref (codes "65")) (reference [] (hexadecimal_ref (codes "4a")) (reference [] (hexadecimal_ref (codes "4A")) (reference [] (hexadecimal_ref (codes "1F600")) (char_data [])))))))))) refl refl tt;
      brackets = known (codes "a > b ]] c ]> ]]") (char_data (codes "a > b ]] c ]> ]]")) refl refl tt;
      white_space_in_values = known (codes "<a b=\"1" ++ (9 ∷ codes "2" ++ (10 ∷ codes "3&#9;&#10;&#13;\"/>"))) (empty_tag [] (tag (codes "a") (spec sp (codes "b") [] [] Double (literal 49 ∷ literal 9 ∷ literal 50 ∷ literal 10 ∷ literal 51 ∷ referring (decimal_ref (codes "9")) ∷ referring (decimal_ref (codes "10")) ∷ referring (decimal_ref (codes "13")) ∷ []) ∷ []) []) (char_data [])) refl refl tt;
      white_space_in_tags = known (codes "<a" ++ (10 ∷ codes "b" ++ (9 ∷ codes "='1'" ++ (10 ∷ codes ">x</a" ++ (10 ∷ codes ">"))))) (tagged [] (tag (codes "a") (spec (10 ∷ []) (codes "b") (9 ∷ []) [] Single (pieces (codes "1") []) ∷ []) (10 ∷ [])) (char_data (codes "x")) (end (codes "a") (10 ∷ [])) (char_data [])) refl refl tt;
      line_ends = known (codes "a" ++ (13 ∷ 10 ∷ codes "b" ++ (13 ∷ codes "c" ++ (10 ∷ 10 ∷ 13 ∷ 13 ∷ 10 ∷ codes "d")))) (char_data (codes "a" ++ (10 ∷ codes "b" ++ (10 ∷ codes "c" ++ (10 ∷ 10 ∷ 10 ∷ 10 ∷ codes "d"))))) refl refl tt;
      return_by_number = known (codes "a&#13;b" ++ (13 ∷ codes "&#10;c")) (reference (codes "a") (decimal_ref (codes "13")) (reference (codes "b" ++ (10 ∷ [])) (decimal_ref (codes "10")) (char_data (codes "c")))) refl refl tt;
      other_letters = known (codes "<é ü='ß'>日本€</é>") (tagged [] (tag (codes "é") (spec sp (codes "ü") [] [] Single (pieces (codes "ß") []) ∷ []) []) (char_data (codes "日本€")) (end (codes "é") []) (char_data [])) refl refl tt;
      names = known (codes "<_a-b.c1><B xml:id='i'/></_a-b.c1>") (tagged [] (tag (codes "_a-b.c1") [] []) (empty_tag [] (tag (codes "B") (spec sp (codes "xml:id") [] [] Single (pieces (codes "i") []) ∷ []) []) (char_data [])) (end (codes "_a-b.c1") []) (char_data [])) refl refl tt;
      nested = known (codes "<g><a/><a></a>t<g><b/></g></g>u") (tagged [] (tag (codes "g") [] []) (empty_tag [] (tag (codes "a") [] []) (tagged [] (tag (codes "a") [] []) (char_data []) (end (codes "a") []) (tagged (codes "t") (tag (codes "g") [] []) (empty_tag [] (tag (codes "b") [] []) (char_data [])) (end (codes "g") []) (char_data [])))) (end (codes "g") []) (char_data (codes "u"))) refl refl tt;
      instruction_like_xml = known (codes "<?xmlx y?><?xml-z?>") (instruction [] (pi (codes "xmlx") sp (codes "y")) (instruction [] (pi (codes "xml-z") [] []) (char_data []))) refl refl tt;
    }

-- the machine dies on all of these
abbrev all_implausible : List (List ℕ) → Bool
all_implausible [] = true
all_implausible (bytes ∷ more) = not (plausible bytes) && all_implausible more

none_reads : (texts : List (List ℕ)) → T (all_implausible texts) → NoReading texts
none_reads [] h = tt
none_reads (bytes ∷ more) h = let s = both (not (plausible bytes)) _ h in (no_reading bytes (false_of (plausible bytes) s.0), none_reads more s.1)
  where
    false_of : (b : Bool) → T (not b) → b ≡ false
    false_of true h = elim h [ ]
    false_of false h = refl

all_rejected : T (all_implausible rejected)
unfolding encode chars
all_rejected = tt

pub samples : Samples
samples = record { accepted = accepted; none = none_reads rejected all_rejected; rendered = refl }
