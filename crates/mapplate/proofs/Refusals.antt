-- A line that tells of a refusal is its parts, written one after the other.
use Rattle.std.proofs.Common.{◌≡◌, ℕ, List, [], ◌∷◌, ◌++◌, Some, codes, decimal, Option, sym, ap, ◌∙◌, append_assoc}
use Rattle.drawing.specs.declared.names.AId.{AId}
use Rattle.drawing.specs.Names.{attribute_name}
use Rattle.mapplate.specs.Record.{shown_attribute, shown_node, refused_by}

pub attribute_written : (attribute : Option AId) (name : AId) (bytes o0 o1 o2 : List ℕ)
    → attribute ≡ Some name → bytes ≡ attribute_name name
    → o1 ≡ o0 ++ codes ", attribute " → o2 ≡ o1 ++ bytes → o2 ≡ o0 ++ shown_attribute attribute
attribute_written attribute name bytes o0 o1 o2 is b e1 e2 =
    let e : o2 ≡ (o0 ++ codes ", attribute ") ++ attribute_name name = cc in
    e ∙ append_assoc o0 _ _ ∙ ap (λ (a : Option AId). o0 ++ shown_attribute a) (sym is)

five : (o0 o1 o2 o3 o4 o5 a b c d e : List ℕ) → o1 ≡ o0 ++ a → o2 ≡ o1 ++ b → o3 ≡ o2 ++ c → o4 ≡ o3 ++ d → o5 ≡ o4 ++ e
    → o5 ≡ o0 ++ (a ++ b ++ c ++ d ++ e)
five o0 o1 o2 o3 o4 o5 a b c d e p q r s t =
    let whole : o5 ≡ ((((o0 ++ a) ++ b) ++ c) ++ d) ++ e = cc in simp append_assoc (simp append_assoc at whole)

pub refusal_written : (number number' : ℕ) (word word' : List ℕ) (attribute attribute' : Option AId) (node node' : Option ℕ) (o0 o1 o2 o3 o4 o5 : List ℕ)
    → number ≡ number' → word ≡ word' → attribute ≡ attribute' → node ≡ node'
    → o1 ≡ o0 ++ (codes ": refused, " ++ decimal number ++ codes " ") → o2 ≡ o1 ++ word → o3 ≡ o2 ++ shown_attribute attribute
    → o4 ≡ o3 ++ shown_node node → o5 ≡ o4 ++ (10 ∷ []) → o5 ≡ o0 ++ refused_by number' word' attribute' node'
refusal_written number number' word word' attribute attribute' node node' o0 o1 o2 o3 o4 o5 n w a k p q r s t =
    five o0 o1 o2 o3 o4 o5 _ _ _ _ _ p q r s t
    ∙ ap (λ (x : ℕ). o0 ++ refused_by x word attribute node) n
    ∙ ap (λ (x : List ℕ). o0 ++ refused_by number' x attribute node) w
    ∙ ap (λ (x : Option AId). o0 ++ refused_by number' word' x node) a
    ∙ ap (λ (x : Option ℕ). o0 ++ refused_by number' word' attribute' x) k
