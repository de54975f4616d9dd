-- Every well-formed forest, rendered, has a reading: the content is built from the end, one character or element at a time.
use Rattle.std.proofs.Common.{◌≡◌, ℕ, Bool, true, false, not, eqb, List, [], ◌∷◌, ◌++◌, map, codes, sym, refl, ap, ◌∙◌, subst, ap₂}
use Rattle.markup.specs.declared.quotes.Quote.{Quote}
use Rattle.markup.specs.Escapes.{quote_mark, escape_value, escape_text, value_then}
use Rattle.markup.specs.Attributes.{Attribute, attributes_then}
use Rattle.markup.specs.Characters.{ZeroOrMore, Name, Without, Distinct, is_char}
use Rattle.markup.specs.Trees.{empty, character, element, Written, is_empty, name_and_value, plain, attribute_names, LegalAttributes, WellFormed}
use Rattle.markup.specs.Renderings.{render}
use Rattle.markup.specs.CharacterReferences.{reference_then}
use Rattle.markup.specs.AttributeSpecifications.{ValuePiece, literal, referring, pieces_then, PiecesStand, normalized, Specification, specifications_then, SpecificationsStand, specified_names, specified}
use Rattle.markup.specs.Content.{CharData, Tag, Content, char_data, reference, cdata_section, instruction, comment, empty_tag, tagged, yield, ContentStands, meaning}
use Rattle.markup.proofs.Classes.{Shown, as_itself, as_reference, InText, InValue, text_shown, value_shown}

-- The characters in front

abbrev pub NoGreater : List ℕ → Type 0
NoGreater d = ZeroOrMore (λ c. not (eqb c 62)) d

abbrev pub front : Content → List ℕ
front (char_data d) = d
front (reference d r more) = d
front (cdata_section d text more) = d
front (instruction d pi more) = d
front (comment d text more) = d
front (empty_tag d tag more) = d
front (tagged d tag children end more) = d

-- content with other characters in front
abbrev with_front : List ℕ → Content → Content
with_front e (char_data d) = char_data e
with_front e (reference d r more) = reference e r more
with_front e (cdata_section d text more) = cdata_section e text more
with_front e (instruction d pi more) = instruction e pi more
with_front e (comment d text more) = comment e text more
with_front e (empty_tag d tag more) = empty_tag e tag more
with_front e (tagged d tag children end more) = tagged e tag children end more

-- one character more in front
abbrev pushed : ℕ → Content → Content
pushed c t = with_front (c ∷ front t) t

pushed_yield : (c : ℕ) (t : Content) (rest : List ℕ) → yield (pushed c t) rest ≡ c ∷ yield t rest
pushed_yield c (char_data d) rest = refl
pushed_yield c (reference d r more) rest = refl
pushed_yield c (cdata_section d text more) rest = refl
pushed_yield c (instruction d pi more) rest = refl
pushed_yield c (comment d text more) rest = refl
pushed_yield c (empty_tag d tag more) rest = refl
pushed_yield c (tagged d tag children end more) rest = refl

pushed_meaning : (c : ℕ) (t : Content) → meaning (pushed c t) ≡ character c (meaning t)
pushed_meaning c (char_data d) = refl
pushed_meaning c (reference d r more) = refl
pushed_meaning c (cdata_section d text more) = refl
pushed_meaning c (instruction d pi more) = refl
pushed_meaning c (comment d text more) = refl
pushed_meaning c (empty_tag d tag more) = refl
pushed_meaning c (tagged d tag children end more) = refl

pushed_front : (c : ℕ) (t : Content) → front (pushed c t) ≡ c ∷ front t
pushed_front c (char_data d) = refl
pushed_front c (reference d r more) = refl
pushed_front c (cdata_section d text more) = refl
pushed_front c (instruction d pi more) = refl
pushed_front c (comment d text more) = refl
pushed_front c (empty_tag d tag more) = refl
pushed_front c (tagged d tag children end more) = refl

part_behind : (class : ℕ → Bool) (a b : List ℕ) → ZeroOrMore class (a ++ b) → ZeroOrMore class b
part_behind class [] b h = h
part_behind class (y ∷ a) b h = part_behind class a b h.1

-- without > there is no ]]>
pub no_section_end : (d : List ℕ) → NoGreater d → Without (codes "]]>") d
no_section_end d h a b e = (part_behind (λ c. not (eqb c 62)) a _ (subst NoGreater e h)).1.1.0

pub no_data : CharData []
no_data = (tt, no_section_end [] tt)

pushed_data : (c : ℕ) (d : List ℕ) → InText c → NoGreater d → CharData d → CharData (c ∷ d)
pushed_data c d h p w = ((h.0, w.0), no_section_end (c ∷ d) (h.1, p))

pushed_stands : (c : ℕ) (t : Content) → InText c → NoGreater (front t) → ContentStands t → ContentStands (pushed c t)
pushed_stands c (char_data d) h p w = pushed_data c d h p w
pushed_stands c (reference d r more) h p w = (pushed_data c d h p w.0, w.1, w.2)
pushed_stands c (cdata_section d text more) h p w = (pushed_data c d h p w.0, w.1, w.2)
pushed_stands c (instruction d pi more) h p w = (pushed_data c d h p w.0, w.1, w.2, w.3)
pushed_stands c (comment d text more) h p w = (pushed_data c d h p w.0, w.1, w.2)
pushed_stands c (empty_tag d tag more) h p w = (pushed_data c d h p w.0, w.1, w.2)
pushed_stands c (tagged d tag children end more) h p w = (pushed_data c d h p w.0, w.1, w.2, w.3, w.4)

-- Content for a forest

pub record Made (m : Written) : Type 0 where
  pub content : Content
  pub same : (rest : List ℕ) → yield content rest ≡ render m rest
  pub stands : ContentStands content
  pub means : meaning content ≡ plain m
  pub plainly : NoGreater (front content)

made_character : (c : ℕ) (m : Written) → Made m → Shown escape_text InText c → Made (character c m)
made_character c m a (as_itself h e) =
    record {
      content = pushed c a.content;
      same = λ rest. pushed_yield c a.content rest ∙ ap (λ x. c ∷ x) (a.same rest) ∙ sym (e (render m rest));
      stands = pushed_stands c a.content h a.plainly a.stands;
      means = pushed_meaning c a.content ∙ ap (λ x. character c x) a.means;
      plainly = subst NoGreater (sym (pushed_front c a.content)) (h.1, a.plainly);
    }
made_character c m a (as_reference r h v e) =
    record {
      content = reference [] r a.content;
      same = λ rest. ap (reference_then r) (a.same rest) ∙ sym (e (render m rest));
      stands = (no_data, h, a.stands);
      means = ap₂ character v a.means;
      plainly = tt;
    }

-- a value
record MadeValue (q : Quote) (v : List ℕ) : Type 0 where
  pieces : List ValuePiece
  same : (rest : List ℕ) → pieces_then pieces rest ≡ value_then q v rest
  stands : PiecesStand (quote_mark q) pieces
  means : normalized pieces ≡ v

made_piece : (q : Quote) (c : ℕ) (v : List ℕ) → Shown (escape_value q) (InValue q) c → MadeValue q v → MadeValue q (c ∷ v)
made_piece q c v (as_itself h e) a =
    record {
      pieces = literal c ∷ a.pieces;
      same = λ rest. ap (λ x. c ∷ x) (a.same rest) ∙ sym (e _);
      stands = (h.0, a.stands);
      means = ap₂ ◌∷◌ h.1 a.means;
    }
made_piece q c v (as_reference r h x e) a =
    record {
      pieces = referring r ∷ a.pieces;
      same = λ rest. ap (reference_then r) (a.same rest) ∙ sym (e _);
      stands = (h, a.stands);
      means = ap₂ ◌∷◌ x a.means;
    }

made_value : (q : Quote) (v : List ℕ) → ZeroOrMore is_char v → MadeValue q v
made_value q [] h = record { pieces = []; same = λ rest. refl; stands = tt; means = refl }
made_value q (c ∷ v) h = made_piece q c v (value_shown q c h.0) (made_value q v h.1)

-- attributes
record MadeAttributes (ps : List Attribute) : Type 0 where
  all : List Specification
  same : (rest : List ℕ) → specifications_then all rest ≡ attributes_then ps rest
  stands : SpecificationsStand all
  means : specified all ≡ map name_and_value ps
  named : specified_names all ≡ attribute_names ps

made_attributes : (ps : List Attribute) → LegalAttributes ps → MadeAttributes ps
made_attributes [] h = record { all = []; same = λ rest. refl; stands = tt; means = refl; named = refl }
made_attributes (p ∷ ps) h =
    let q = p.quote in
    let v = made_value q p.value h.1 in
    let a = made_attributes ps h.2 in
    record {
      all = record { space = 32 ∷ []; name = p.name; space_before_equals = []; space_after_equals = []; quote = q; value = v.pieces } ∷ a.all;
      same = λ rest. ap (λ x. 32 ∷ (p.name ++ (61 ∷ quote_mark q ∷ x))) (v.same _ ∙ ap (λ x. value_then q p.value (quote_mark q ∷ x)) (a.same rest));
      stands = ((tt, tt), h.0, tt, tt, v.stands, a.stands);
      means = ap₂ (λ x y. (p.name, x) ∷ y) v.means a.means;
      named = ap (λ x. p.name ∷ x) a.named;
    }

made_element : (n : List ℕ) (ps : List Attribute) (k m : Written) → Name n → MadeAttributes ps → Distinct (attribute_names ps) → Made k → Made m → Made (element n ps k m)
made_element n ps k m h u q a b = go (is_empty k) refl
  where
    tag : Tag
    tag = record { name = n; attributes = u.all; space = [] }

    distinct : Distinct (specified_names u.all)
    distinct = subst Distinct (sym u.named) q

    none : (k : Written) → is_empty k ≡ true → empty ≡ plain k
    none empty e = refl
    none (character c k) e = cc
    none (element c x k k') e = cc

    go : (b : Bool) → is_empty k ≡ b → Made (element n ps k m)
    go true e =
        record {
          content = empty_tag [] tag b.content;
          same = λ rest. ap (λ x. 60 ∷ (n ++ x)) (u.same _ ∙ rw (e, b.same rest));
          stands = (no_data, (h, u.stands, distinct, tt), b.stands);
          means = cc (b.means, u.means, none k e);
          plainly = tt;
        }
    go false e =
        record {
          content = tagged [] tag a.content (record { name = n; space = [] }) b.content;
          same = λ rest. ap (λ x. 60 ∷ (n ++ x)) (u.same _ ∙ rw (e, b.same rest, a.same (60 ∷ 47 ∷ (n ++ (62 ∷ render m rest)))));
          stands = (no_data, (h, u.stands, distinct, tt), a.stands, (refl, tt), b.stands);
          means = cc (b.means, a.means, u.means);
          plainly = tt;
        }

pub made : (m : Written) → WellFormed m → Made m
made empty w = record { content = char_data []; same = λ rest. refl; stands = no_data; means = refl; plainly = tt }
made (character c m) w = made_character c m (made m w.1) (text_shown c w.0)
made (element n ps k m) w = made_element n ps k m w.0 (made_attributes ps w.1) w.2 (made k w.3) (made m w.4)
