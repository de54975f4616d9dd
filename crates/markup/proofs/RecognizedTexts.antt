-- The machine lives through character data, references, sections, comments and processing instructions.
use Rattle.std.proofs.Common.{◌≡◌, ℕ, ◌+◌, ◌*◌, Bool, true, false, cond, not, T, eqb, List, [], ◌∷◌, ◌++◌, map, codes, sym, refl, ap, ◌∙◌}
use Rattle.std.specs.Str.{bytes_eq}
use Rattle.std.proofs.lemmas.List.{append-nil, append_assoc}
use Rattle.markup.specs.Characters.{is_char, is_space, is_name_char, is_digit, is_hex_digit, is_data, ZeroOrMore, Without}
use Rattle.markup.specs.CharacterReferences.{amp, lt, gt, quot, apos, Reference, entity_ref, decimal_ref, hexadecimal_ref, reference_then, ReferenceStands, digit_value, number_from}
use Rattle.markup.specs.Content.{CharData, PI, small_letter, PITarget, PIText}
use Rattle.markup.specs.Checks.{is_name}
use Rattle.std.proofs.Math.Dec.{not_T}
use Rattle.markup.proofs.Classes.{and_T, test}
use Rattle.markup.proofs.Spans.{each_space, name_all}
use Rattle.markup.proofs.SameTexts.{without_tail}
use Rattle.markup.proofs.Checks.{same_is, name_tests}
use Rattle.markup.proofs.Recognizer.{Brackets, none, one, two, Mode, text, less, expect, in_comment, after_hyphen, section, target, in_instruction, after_question, ampersand, hash, decimal, hash_x, hexadecimal, dead, State, data_step, is_target, step, run}

abbrev pub Names : Type 0
Names = List (List ℕ)

pub cond_true : {A : Type 0} (b : Bool) (x y : A) → T b → cond b x y ≡ x
cond_true true x y h = refl
cond_true false x y h = elim h [ ]

pub cond_false : {A : Type 0} (b : Bool) (x y : A) → T (not b) → cond b x y ≡ y
cond_false true x y h = elim h [ ]
cond_false false x y h = refl

-- one step
pub moves : (ns : Names) (m : Mode) (c : ℕ) (cs : List ℕ) {s : State} → step ns m c ≡ s → run ns m (c ∷ cs) ≡ run s.0 s.1 cs
moves ns m c cs e = ap (λ (s : State). run s.0 s.1 cs) e

-- a mode that stays over a class, and one that gathers a name
pub stays : (class : ℕ → Bool) (ns : Names) (m : Mode) → ((c : ℕ) → T (class c) → step ns m c ≡ (ns, m)) → (xs rest : List ℕ) → ZeroOrMore class xs → run ns m (xs ++ rest) ≡ run ns m rest
stays class ns m f [] rest h = refl
stays class ns m f (x ∷ xs) rest h = moves ns m x (xs ++ rest) (f x h.0) ∙ stays class ns m f xs rest h.1

pub gathers : (ns : Names) (m : List ℕ → Mode) → ((name : List ℕ) (c : ℕ) → T (is_name_char c) → step ns (m name) c ≡ (ns, m (name ++ c ∷ []))) → (name xs rest : List ℕ) → ZeroOrMore is_name_char xs → run ns (m name) (xs ++ rest) ≡ run ns (m (name ++ xs)) rest
gathers ns m f name [] rest h = ap (λ z. run ns (m z) rest) (sym (append-nil name))
gathers ns m f name (x ∷ xs) rest h =
    moves ns (m name) x (xs ++ rest) (f name x h.0)
    ∙ gathers ns m f (name ++ x ∷ []) xs rest h.1
    ∙ ap (λ z. run ns (m z) rest) (append_assoc name (x ∷ []) xs)

-- Character data

abbrev pub before : Brackets → List ℕ → List ℕ
before none d = d
before one d = 93 ∷ d
before two d = 93 ∷ 93 ∷ d

abbrev pub NoEnd : List ℕ → Type 0
NoEnd d = Without (codes "]]>") d

pub no_end_behind : (b : Brackets) (d : List ℕ) → NoEnd (before b d) → NoEnd d
no_end_behind none d h = h
no_end_behind one d h = without_tail (codes "]]>") 93 d h
no_end_behind two d h = without_tail (codes "]]>") 93 d (without_tail (codes "]]>") 93 (93 ∷ d) h)

abbrev pub TextRuns : Names → Brackets → List ℕ → List ℕ → Type 0
TextRuns ns b d rest = (b' : Brackets) × (run ns (text b) (d ++ rest) ≡ run ns (text b') rest)

pub text_step : (ns : Names) (c : ℕ) (d rest : List ℕ) (b : Brackets) → T (is_data c) → NoEnd (before b (c ∷ d)) → ((b : Brackets) → NoEnd (before b d) → TextRuns ns b d rest) → TextRuns ns b (c ∷ d) rest
text_step ns c d rest b h w ih = test P c 93 (bracket b) (λ e1. test P c 62 (greater b) (λ e2 k v. other b e1 e2 k v)) h w
  where
    P : ℕ → Type 0
    P v = T (is_data v) → NoEnd (before b (v ∷ d)) → TextRuns ns b (v ∷ d) rest

    bracket : (b : Brackets) → T (is_data 93) → NoEnd (before b (93 ∷ d)) → TextRuns ns b (93 ∷ d) rest
    bracket none k v = ih one v
    bracket one k v = ih two v
    bracket two k v = ih two (without_tail (codes "]]>") 93 (93 ∷ 93 ∷ d) v)

    greater : (b : Brackets) → T (is_data 62) → NoEnd (before b (62 ∷ d)) → TextRuns ns b (62 ∷ d) rest
    greater none k v = ih none (without_tail (codes "]]>") 62 d v)
    greater one k v = ih none (without_tail (codes "]]>") 62 d (without_tail (codes "]]>") 93 (62 ∷ d) v))
    greater two k v = absurd (v [] d refl)

    plain_step : (b : Brackets) → eqb c 93 ≡ false → eqb c 62 ≡ false → data_step ns b c ≡ (ns, text none)
    plain_step none e1 e2 = simp (e1, e2)
    plain_step one e1 e2 = simp (e1, e2)
    plain_step two e1 e2 = simp (e1, e2)

    other : (b : Brackets) → eqb c 93 ≡ false → eqb c 62 ≡ false → T (is_data c) → NoEnd (before b (c ∷ d)) → TextRuns ns b (c ∷ d) rest
    other b e1 e2 k v =
        let i = ih none (without_tail (codes "]]>") c d (no_end_behind b (c ∷ d) v)) in
        (i.0, moves ns (text b) c (d ++ rest) (cond_true (is_data c) _ _ k ∙ plain_step b e1 e2) ∙ i.1)

pub text_runs : (ns : Names) (d rest : List ℕ) (b : Brackets) → ZeroOrMore is_data d → NoEnd (before b d) → TextRuns ns b d rest
text_runs ns [] rest b h w = (b, refl)
text_runs ns (c ∷ d) rest b h w = text_step ns c d rest b h.0 w (λ b v. text_runs ns d rest b h.1 v)

-- after character data, `<` and `&` do the same however many brackets stand before
pub data_then_less : (ns : Names) (d rest : List ℕ) → CharData d → run ns (text none) (d ++ (60 ∷ rest)) ≡ run ns less rest
data_then_less ns d rest h = let i = text_runs ns d (60 ∷ rest) none h.0 h.1 in i.1 ∙ go i.0
  where
    go : (b : Brackets) → run ns (text b) (60 ∷ rest) ≡ run ns less rest
    go none = refl
    go one = refl
    go two = refl

pub data_then_ampersand : (ns : Names) (d rest : List ℕ) → CharData d → run ns (text none) (d ++ (38 ∷ rest)) ≡ run ns (ampersand (text none)) rest
data_then_ampersand ns d rest h = let i = text_runs ns d (38 ∷ rest) none h.0 h.1 in i.1 ∙ go i.0
  where
    go : (b : Brackets) → run ns (text b) (38 ∷ rest) ≡ run ns (ampersand (text none)) rest
    go none = refl
    go one = refl
    go two = refl

-- References

pub decimal_runs : (ns : Names) (m : Mode) (n : ℕ) (ds rest : List ℕ) → ZeroOrMore is_digit ds → T (is_char (number_from 10 n ds)) → run ns (decimal m n) (ds ++ (59 ∷ rest)) ≡ run ns m rest
decimal_runs ns m n [] rest h k = moves ns (decimal m n) 59 rest (cond_true (is_char n) _ _ k)
decimal_runs ns m n (d ∷ ds) rest h k =
    moves ns (decimal m n) d (ds ++ (59 ∷ rest)) (cond_true (is_digit d) _ _ h.0) ∙ decimal_runs ns m (10 * n + digit_value d) ds rest h.1 k

pub hexadecimal_runs : (ns : Names) (m : Mode) (n : ℕ) (ds rest : List ℕ) → ZeroOrMore is_hex_digit ds → T (is_char (number_from 16 n ds)) → run ns (hexadecimal m n) (ds ++ (59 ∷ rest)) ≡ run ns m rest
hexadecimal_runs ns m n [] rest h k = moves ns (hexadecimal m n) 59 rest (cond_true (is_char n) _ _ k)
hexadecimal_runs ns m n (d ∷ ds) rest h k =
    moves ns (hexadecimal m n) d (ds ++ (59 ∷ rest)) (cond_true (is_hex_digit d) _ _ h.0) ∙ hexadecimal_runs ns m (16 * n + digit_value d) ds rest h.1 k

abbrev pub after_ampersand : Reference → List ℕ → List ℕ
after_ampersand (entity_ref amp) rest = codes "amp;" ++ rest
after_ampersand (entity_ref lt) rest = codes "lt;" ++ rest
after_ampersand (entity_ref gt) rest = codes "gt;" ++ rest
after_ampersand (entity_ref quot) rest = codes "quot;" ++ rest
after_ampersand (entity_ref apos) rest = codes "apos;" ++ rest
after_ampersand (decimal_ref ds) rest = 35 ∷ (ds ++ (59 ∷ rest))
after_ampersand (hexadecimal_ref ds) rest = 35 ∷ 120 ∷ (ds ++ (59 ∷ rest))

pub reference_split : (r : Reference) (rest : List ℕ) → reference_then r rest ≡ 38 ∷ after_ampersand r rest
reference_split (entity_ref amp) rest = refl
reference_split (entity_ref lt) rest = refl
reference_split (entity_ref gt) rest = refl
reference_split (entity_ref quot) rest = refl
reference_split (entity_ref apos) rest = refl
reference_split (decimal_ref ds) rest = refl
reference_split (hexadecimal_ref ds) rest = refl

pub reference_runs : (ns : Names) (m : Mode) (r : Reference) (rest : List ℕ) → ReferenceStands r → run ns (ampersand m) (after_ampersand r rest) ≡ run ns m rest
reference_runs ns m (entity_ref amp) rest h = refl
reference_runs ns m (entity_ref lt) rest h = refl
reference_runs ns m (entity_ref gt) rest h = refl
reference_runs ns m (entity_ref quot) rest h = refl
reference_runs ns m (entity_ref apos) rest h = refl
reference_runs ns m (decimal_ref []) rest h = elim h.0 [ ]
reference_runs ns m (decimal_ref (d ∷ ds)) rest h =
    moves ns (hash m) d (ds ++ (59 ∷ rest)) (cond_true (is_digit d) _ _ h.0.0) ∙ decimal_runs ns m (10 * 0 + digit_value d) ds rest h.0.1 h.1
reference_runs ns m (hexadecimal_ref []) rest h = elim h.0 [ ]
reference_runs ns m (hexadecimal_ref (d ∷ ds)) rest h =
    moves ns (hash_x m) d (ds ++ (59 ∷ rest)) (cond_true (is_hex_digit d) _ _ h.0.0) ∙ hexadecimal_runs ns m (16 * 0 + digit_value d) ds rest h.0.1 h.1

-- Sections, comments, instructions

section_step :
    (ns : Names) (c : ℕ) (d rest : List ℕ) (b : Brackets) → T (is_char c) → NoEnd (before b (c ∷ d))
    → ((b : Brackets) → NoEnd (before b d) → run ns (section b) (d ++ rest) ≡ run ns (section none) rest)
    → run ns (section b) (c ∷ (d ++ rest)) ≡ run ns (section none) rest
section_step ns c d rest b h w ih = test P c 93 (bracket b) (λ e1. test P c 62 (greater b) (λ e2 k v. other b e1 e2 k v)) h w
  where
    P : ℕ → Type 0
    P v = T (is_char v) → NoEnd (before b (v ∷ d)) → run ns (section b) (v ∷ (d ++ rest)) ≡ run ns (section none) rest

    bracket : (b : Brackets) → T (is_char 93) → NoEnd (before b (93 ∷ d)) → run ns (section b) (93 ∷ (d ++ rest)) ≡ run ns (section none) rest
    bracket none k v = ih one v
    bracket one k v = ih two v
    bracket two k v = ih two (without_tail (codes "]]>") 93 (93 ∷ 93 ∷ d) v)

    greater : (b : Brackets) → T (is_char 62) → NoEnd (before b (62 ∷ d)) → run ns (section b) (62 ∷ (d ++ rest)) ≡ run ns (section none) rest
    greater none k v = ih none (without_tail (codes "]]>") 62 d v)
    greater one k v = ih none (without_tail (codes "]]>") 62 d (without_tail (codes "]]>") 93 (62 ∷ d) v))
    greater two k v = absurd (v [] d refl)

    plain_step : (b : Brackets) → eqb c 93 ≡ false → eqb c 62 ≡ false → T (is_char c) → step ns (section b) c ≡ (ns, section none)
    plain_step none e1 e2 k = ap (λ x. cond x (ns, section one) (cond (is_char c) (ns, section none) (ns, dead))) e1 ∙ cond_true (is_char c) _ _ k
    plain_step one e1 e2 k = ap (λ x. cond x (ns, section two) (cond (is_char c) (ns, section none) (ns, dead))) e1 ∙ cond_true (is_char c) _ _ k
    plain_step two e1 e2 k =
        ap (λ x. cond x (ns, section two) (cond (eqb c 62) (ns, text none) (cond (is_char c) (ns, section none) (ns, dead)))) e1
        ∙ ap (λ x. cond x (ns, text none) (cond (is_char c) (ns, section none) (ns, dead))) e2 ∙ cond_true (is_char c) _ _ k

    other : (b : Brackets) → eqb c 93 ≡ false → eqb c 62 ≡ false → T (is_char c) → NoEnd (before b (c ∷ d)) → run ns (section b) (c ∷ (d ++ rest)) ≡ run ns (section none) rest
    other b e1 e2 k v = moves ns (section b) c (d ++ rest) (plain_step b e1 e2 k) ∙ ih none (without_tail (codes "]]>") c d (no_end_behind b (c ∷ d) v))

pub section_runs : (ns : Names) (d rest : List ℕ) (b : Brackets) → ZeroOrMore is_char d → NoEnd (before b d) → run ns (section b) (d ++ (93 ∷ 93 ∷ 62 ∷ rest)) ≡ run ns (section none) (93 ∷ 93 ∷ 62 ∷ rest)
section_runs ns [] rest none h w = refl
section_runs ns [] rest one h w = refl
section_runs ns [] rest two h w = refl
section_runs ns (c ∷ d) rest b h w = section_step ns c d (93 ∷ 93 ∷ 62 ∷ rest) b h.0 w (λ b v. section_runs ns d rest b h.1 v)

-- the flag says that a hyphen stands before
abbrev pub comment_mode : Bool → Mode
comment_mode false = in_comment
comment_mode true = after_hyphen

abbrev pub hyphen_before : Bool → List ℕ → List ℕ
hyphen_before false d = d
hyphen_before true d = 45 ∷ d

comment_step :
    (ns : Names) (c : ℕ) (d rest : List ℕ) (b : Bool) → T (is_char c) → Without (codes "--") (hyphen_before b (c ∷ (d ++ (45 ∷ []))))
    → ((b : Bool) → Without (codes "--") (hyphen_before b (d ++ (45 ∷ []))) → run ns (comment_mode b) (d ++ rest) ≡ run ns in_comment rest)
    → run ns (comment_mode b) (c ∷ (d ++ rest)) ≡ run ns in_comment rest
comment_step ns c d rest b h w ih = test P c 45 (hyphen b) (λ e k v. other b e k v) h w
  where
    P : ℕ → Type 0
    P v = T (is_char v) → Without (codes "--") (hyphen_before b (v ∷ (d ++ (45 ∷ [])))) → run ns (comment_mode b) (v ∷ (d ++ rest)) ≡ run ns in_comment rest

    hyphen : (b : Bool) → T (is_char 45) → Without (codes "--") (hyphen_before b (45 ∷ (d ++ (45 ∷ [])))) → run ns (comment_mode b) (45 ∷ (d ++ rest)) ≡ run ns in_comment rest
    hyphen false k v = ih true v
    hyphen true k v = absurd (v [] (d ++ (45 ∷ [])) refl)

    other : (b : Bool) → eqb c 45 ≡ false → T (is_char c) → Without (codes "--") (hyphen_before b (c ∷ (d ++ (45 ∷ [])))) → run ns (comment_mode b) (c ∷ (d ++ rest)) ≡ run ns in_comment rest
    other false e k v =
        moves ns in_comment c (d ++ rest) (ap (λ x. cond x (ns, after_hyphen) (cond (is_char c) (ns, in_comment) (ns, dead))) e ∙ cond_true (is_char c) _ _ k)
        ∙ ih false (without_tail (codes "--") c (d ++ (45 ∷ [])) v)
    other true e k v =
        moves ns after_hyphen c (d ++ rest) (ap (λ x. cond x (ns, expect (62 ∷ []) (text none)) (cond (is_char c) (ns, in_comment) (ns, dead))) e ∙ cond_true (is_char c) _ _ k)
        ∙ ih false (without_tail (codes "--") c (d ++ (45 ∷ [])) (without_tail (codes "--") 45 (c ∷ (d ++ (45 ∷ []))) v))

pub comment_runs : (ns : Names) (d rest : List ℕ) (b : Bool) → ZeroOrMore is_char d → Without (codes "--") (hyphen_before b (d ++ (45 ∷ []))) → run ns (comment_mode b) (d ++ (45 ∷ 45 ∷ 62 ∷ rest)) ≡ run ns in_comment (45 ∷ 45 ∷ 62 ∷ rest)
comment_runs ns [] rest false h w = refl
comment_runs ns [] rest true h w = absurd (w [] [] refl)
comment_runs ns (c ∷ d) rest b h w = comment_step ns c d (45 ∷ 45 ∷ 62 ∷ rest) b h.0 w (λ b v. comment_runs ns d rest b h.1 v)

-- the flag says that a question mark stands before
abbrev pub instruction_mode : Bool → Mode
instruction_mode false = in_instruction
instruction_mode true = after_question

abbrev pub question_before : Bool → List ℕ → List ℕ
question_before false d = d
question_before true d = 63 ∷ d

instruction_step :
    (ns : Names) (c : ℕ) (d rest : List ℕ) (b : Bool) → T (is_char c) → Without (codes "?>") (question_before b (c ∷ d))
    → ((b : Bool) → Without (codes "?>") (question_before b d) → run ns (instruction_mode b) (d ++ rest) ≡ run ns in_instruction rest)
    → run ns (instruction_mode b) (c ∷ (d ++ rest)) ≡ run ns in_instruction rest
instruction_step ns c d rest b h w ih = test P c 63 (question b) (λ e1. test P c 62 (greater b) (λ e2 k v. other b e1 e2 k v)) h w
  where
    P : ℕ → Type 0
    P v = T (is_char v) → Without (codes "?>") (question_before b (v ∷ d)) → run ns (instruction_mode b) (v ∷ (d ++ rest)) ≡ run ns in_instruction rest

    question : (b : Bool) → T (is_char 63) → Without (codes "?>") (question_before b (63 ∷ d)) → run ns (instruction_mode b) (63 ∷ (d ++ rest)) ≡ run ns in_instruction rest
    question false k v = ih true v
    question true k v = ih true (without_tail (codes "?>") 63 (63 ∷ d) v)

    greater : (b : Bool) → T (is_char 62) → Without (codes "?>") (question_before b (62 ∷ d)) → run ns (instruction_mode b) (62 ∷ (d ++ rest)) ≡ run ns in_instruction rest
    greater false k v = ih false (without_tail (codes "?>") 62 d v)
    greater true k v = absurd (v [] d refl)

    other : (b : Bool) → eqb c 63 ≡ false → eqb c 62 ≡ false → T (is_char c) → Without (codes "?>") (question_before b (c ∷ d)) → run ns (instruction_mode b) (c ∷ (d ++ rest)) ≡ run ns in_instruction rest
    other false e1 e2 k v =
        moves ns in_instruction c (d ++ rest) (ap (λ x. cond x (ns, after_question) (cond (is_char c) (ns, in_instruction) (ns, dead))) e1 ∙ cond_true (is_char c) _ _ k)
        ∙ ih false (without_tail (codes "?>") c d v)
    other true e1 e2 k v =
        moves ns after_question c (d ++ rest)
        (ap (λ x. cond x (ns, text none) (cond (eqb c 63) (ns, after_question) (cond (is_char c) (ns, in_instruction) (ns, dead)))) e2
        ∙ ap (λ x. cond x (ns, after_question) (cond (is_char c) (ns, in_instruction) (ns, dead))) e1 ∙ cond_true (is_char c) _ _ k)
        ∙ ih false (without_tail (codes "?>") c d (without_tail (codes "?>") 63 (c ∷ d) v))

pub instruction_runs : (ns : Names) (d rest : List ℕ) (b : Bool) → ZeroOrMore is_char d → Without (codes "?>") (question_before b d) → run ns (instruction_mode b) (d ++ (63 ∷ 62 ∷ rest)) ≡ run ns in_instruction (63 ∷ 62 ∷ rest)
instruction_runs ns [] rest false h w = refl
instruction_runs ns [] rest true h w = refl
instruction_runs ns (c ∷ d) rest b h w = instruction_step ns c d (63 ∷ 62 ∷ rest) b h.0 w (λ b v. instruction_runs ns d rest b h.1 v)

pub target_good : (n : List ℕ) → PITarget n → T (is_target n)
target_good n h = and_T (is_name n) _ ((name_tests n).1 h.0) (not_T (bytes_eq (map small_letter n) (codes "xml")) (λ t. h.1 (same_is (map small_letter n) (codes "xml") t)))

pub pi_runs : (ns : Names) (p : PI) (rest : List ℕ) → PITarget p.target → PIText p.space p.text → run ns (target []) (p.target ++ (p.space ++ (p.text ++ (63 ∷ 62 ∷ rest)))) ≡ run ns (text none) rest
pi_runs ns p rest ht hx =
    gathers ns target (λ name c k. cond_true (is_name_char c) _ _ k) [] p.target _ (name_all p.target ht.0) ∙ go p.space p.text hx
  where
    go : (s d : List ℕ) → PIText s d → run ns (target p.target) (s ++ (d ++ (63 ∷ 62 ∷ rest))) ≡ run ns (text none) rest
    go [] d h =
        ap (λ z. run ns (target p.target) (z ++ (63 ∷ 62 ∷ rest))) h
        ∙ moves ns (target p.target) 63 (62 ∷ rest) (cond_true (is_target p.target) _ _ (target_good p.target ht))
    go (x ∷ s) d h =
        moves ns (target p.target) x (s ++ (d ++ (63 ∷ 62 ∷ rest)))
        (each_space (λ v. step ns (target p.target) v ≡ cond (is_target p.target) (ns, in_instruction) (ns, dead)) refl refl refl refl x h.0.0
        ∙ cond_true (is_target p.target) _ _ (target_good p.target ht))
        ∙ stays is_space ns in_instruction (λ c k. each_space (λ v. step ns in_instruction v ≡ (ns, in_instruction)) refl refl refl refl c k) s (d ++ (63 ∷ 62 ∷ rest)) h.0.1
        ∙ instruction_runs ns d rest false h.1 h.2
