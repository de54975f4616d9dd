-- What open writes is well-formed, and all of it is ASCII.
use Rattle.std.proofs.Common.{◌≡◌, ℕ, Bool, true, false, ◌&&◌, T, leb, List, [], ◌∷◌, ◌++◌, map, length, codes, refl, ap, ◌∙◌, ap₂, arith}
use lib.Utf8.{encode, encodes}
use Rattle.std.proofs.lemmas.Bool.Decides.{nat_tests}
use Rattle.markup.specs.declared.quotes.Quote.{Quote}
use Rattle.markup.specs.Attributes.{Attribute, attribute}
use Rattle.markup.specs.Characters.{ZeroOrMore, Name, Distinct, is_char}
use Rattle.markup.specs.Trees.{attribute_names, LegalAttributes}
use Rattle.markup.specs.Renderings.{encoded_attribute}
use Rattle.markup.proofs.Classes.{T_of}
use Rattle.markup.proofs.Checks.{name_tests, all_in_tests, distinct_tests}
use Rattle.markup.proofs.Encodings.{low, encodes_low}
use Rattle.drawing.specs.declared.options.WriteOptions.{WriteOptions}
use Rattle.drawing.specs.Options.{prefix_of}
use Rattle.checks.specs.Ids.{id_byte, id_bytes}
use Rattle.checks.specs.Settings.{settings_stand}
use Rattle.plates.specs.declared.elements.Element.{Element}
use Rattle.plates.specs.declared.elements.Element.TheVariants.{Svg, G, Defs, Mask, Pattern, LinearGradient, RadialGradient}
use Rattle.plates.specs.Elements.{element_name, quote_of, id_attributes, namespaces, opening_attributes}

pub name_legal : (n : Element) → Name (element_name n)
name_legal Svg = (name_tests (element_name Svg)).0 tt
name_legal G = (name_tests (element_name G)).0 tt
name_legal Defs = (name_tests (element_name Defs)).0 tt
name_legal Mask = (name_tests (element_name Mask)).0 tt
name_legal Pattern = (name_tests (element_name Pattern)).0 tt
name_legal LinearGradient = (name_tests (element_name LinearGradient)).0 tt
name_legal RadialGradient = (name_tests (element_name RadialGradient)).0 tt

pub name_encoded : (n : Element) → encodes (element_name n) ≡ element_name n
unfolding encode
name_encoded Svg = refl
name_encoded G = refl
name_encoded Defs = refl
name_encoded Mask = refl
name_encoded Pattern = refl
name_encoded LinearGradient = refl
name_encoded RadialGradient = refl

-- ids

both_true : (a b : Bool) → (a && b) ≡ true → (a ≡ true) × (b ≡ true)
both_true true b h = (refl, h)
both_true false b h = (h, let z : ◌≡◌ {A = ℕ} 0 1 = cc in absurd (omega arith))

id_char : (c : ℕ) → id_byte c ≡ true → T (is_char c)
id_char c h = let k = T_of h in grind (arith, nat_tests)

id_low : (c : ℕ) → id_byte c ≡ true → T (low c)
id_low c h = let k = T_of h in grind (arith, nat_tests)

each_id : (P : ℕ → Bool) → ((c : ℕ) → id_byte c ≡ true → T (P c)) → (bs rest : List ℕ) → id_bytes bs ≡ true → ZeroOrMore P rest → ZeroOrMore P (bs ++ rest)
each_id P f [] rest h k = k
each_id P f (b ∷ bs) rest h k = let s = both_true (id_byte b) _ h in (f b s.0, each_id P f bs rest s.1 k)

each_in : (P : ℕ → Bool) → ((c : ℕ) → id_byte c ≡ true → T (P c)) → (bs : List ℕ) → id_bytes bs ≡ true → ZeroOrMore P bs
each_in P f [] h = tt
each_in P f (b ∷ bs) h = let s = both_true (id_byte b) _ h in (f b s.0, each_in P f bs s.1)

prefix_good : (o : WriteOptions) → settings_stand o ≡ true → id_bytes (prefix_of o) ≡ true
prefix_good o h = (both_true (leb (length (prefix_of o)) 32) _ (both_true (leb o.transforms_precision 8) _ (both_true (leb o.coordinates_precision 8) _ h).1).1).1

id_legal : (o : WriteOptions) (id : List ℕ) → settings_stand o ≡ true → id_bytes id ≡ true → LegalAttributes (id_attributes o id)
id_legal o [] h k = tt
id_legal o (b ∷ bs) h k = ((name_tests (codes "id")).0 tt, each_id is_char id_char (prefix_of o) (b ∷ bs) (prefix_good o h) (each_in is_char id_char (b ∷ bs) k), tt)

id_encoded : (o : WriteOptions) (id : List ℕ) → settings_stand o ≡ true → id_bytes id ≡ true → map encoded_attribute (id_attributes o id) ≡ id_attributes o id
unfolding encode
id_encoded o [] h k = refl
id_encoded o (b ∷ bs) h k =
    ap (λ z. attribute (quote_of o) (codes "id") z ∷ []) (encodes_low (prefix_of o ++ (b ∷ bs)) (each_id low id_low (prefix_of o) (b ∷ bs) (prefix_good o h) (each_in low id_low (b ∷ bs) k)))

-- namespaces

spaces_legal : (q : Quote) (n : Element) → LegalAttributes (namespaces q n)
spaces_legal q Svg = ((name_tests (codes "xmlns")).0 tt, (all_in_tests is_char (codes "http://www.w3.org/2000/svg")).0 tt, ((name_tests (codes "xmlns:xlink")).0 tt, (all_in_tests is_char (codes "http://www.w3.org/1999/xlink")).0 tt, tt))
spaces_legal q G = tt
spaces_legal q Defs = tt
spaces_legal q Mask = tt
spaces_legal q Pattern = tt
spaces_legal q LinearGradient = tt
spaces_legal q RadialGradient = tt

spaces_encoded : (q : Quote) (n : Element) → map encoded_attribute (namespaces q n) ≡ namespaces q n
unfolding encode
spaces_encoded q Svg = refl
spaces_encoded q G = refl
spaces_encoded q Defs = refl
spaces_encoded q Mask = refl
spaces_encoded q Pattern = refl
spaces_encoded q LinearGradient = refl
spaces_encoded q RadialGradient = refl

-- all attributes of a start tag

join_legal : (a b : List Attribute) → LegalAttributes a → LegalAttributes b → LegalAttributes (a ++ b)
join_legal [] b h k = k
join_legal (x ∷ a) b h k = (h.0, h.1, join_legal a b h.2 k)

join_encoded : (a b : List Attribute) → map encoded_attribute a ≡ a → map encoded_attribute b ≡ b → map encoded_attribute (a ++ b) ≡ a ++ b
join_encoded a b h k = go a ∙ ap₂ (λ x y. x ++ y) h k
  where
    go : (a : List Attribute) → map encoded_attribute (a ++ b) ≡ map encoded_attribute a ++ map encoded_attribute b
    go [] = refl
    go (x ∷ a) = ap (λ z. encoded_attribute x ∷ z) (go a)

pub opening_legal : (o : WriteOptions) (n : Element) (id : List ℕ) → settings_stand o ≡ true → id_bytes id ≡ true → LegalAttributes (opening_attributes o n id)
opening_legal o n id h k = join_legal (id_attributes o id) (namespaces (quote_of o) n) (id_legal o id h k) (spaces_legal (quote_of o) n)

pub opening_encoded : (o : WriteOptions) (n : Element) (id : List ℕ) → settings_stand o ≡ true → id_bytes id ≡ true → map encoded_attribute (opening_attributes o n id) ≡ opening_attributes o n id
opening_encoded o n id h k = join_encoded (id_attributes o id) (namespaces (quote_of o) n) (id_encoded o id h k) (spaces_encoded (quote_of o) n)

pub opening_distinct : (o : WriteOptions) (n : Element) (id : List ℕ) → Distinct (attribute_names (opening_attributes o n id))
opening_distinct o Svg [] = (distinct_tests (codes "xmlns" ∷ codes "xmlns:xlink" ∷ [])).0 tt
opening_distinct o G [] = tt
opening_distinct o Defs [] = tt
opening_distinct o Mask [] = tt
opening_distinct o Pattern [] = tt
opening_distinct o LinearGradient [] = tt
opening_distinct o RadialGradient [] = tt
opening_distinct o Svg (b ∷ bs) = (distinct_tests (codes "id" ∷ codes "xmlns" ∷ codes "xmlns:xlink" ∷ [])).0 tt
opening_distinct o G (b ∷ bs) = (tt, tt)
opening_distinct o Defs (b ∷ bs) = (tt, tt)
opening_distinct o Mask (b ∷ bs) = (tt, tt)
opening_distinct o Pattern (b ∷ bs) = (tt, tt)
opening_distinct o LinearGradient (b ∷ bs) = (tt, tt)
opening_distinct o RadialGradient (b ∷ bs) = (tt, tt)
