-- Where a text that ends in a delimiter ends: two that are spelled alike are the same.
use Rattle.std.proofs.Common.{◌≡◌, ℕ, List, [], ◌∷◌, ◌++◌, codes, sym, refl, ap, ◌∙◌, subst, ap₂}
use Rattle.std.proofs.lemmas.List.{append_assoc}
use Rattle.markup.specs.Characters.{is_space, ZeroOrMore, Without}
use Rattle.markup.specs.Content.{PIText}
use Rattle.markup.proofs.Spans.{head_same, tail_same, no_nil, clash, each_space}

pub without_tail : (s : List ℕ) (x : ℕ) (d : List ℕ) → Without s (x ∷ d) → Without s d
without_tail s x d h a b e = h (x ∷ a) b (ap (λ z. x ∷ z) e)

-- D r is the delimiter and then r; W says that a text does not hold it; it cannot begin inside such a text
module _ (D : List ℕ → List ℕ) (W : List ℕ → Type 0) (behind : (r s : List ℕ) → D r ≡ D s → r ≡ s) (shorter : (c : ℕ) (x : List ℕ) → W (c ∷ x) → W x) (early : (c : ℕ) (y r s : List ℕ) → W (c ∷ y) → D r ≡ c ∷ (y ++ D s) → ⊥) where
  pub until : (x y r s : List ℕ) → W x → W y → x ++ D r ≡ y ++ D s → (x ≡ y) × (r ≡ s)
  until [] [] r s w v e = (refl, behind r s e)
  until [] (d ∷ y) r s w v e = absurd (early d y r s v e)
  until (c ∷ x) [] r s w v e = absurd (early c x s r w (sym e))
  until (c ∷ x) (d ∷ y) r s w v e =
      let i = until x y r s (shorter c x w) (shorter d y v) (tail_same e) in
      (ap₂ ◌∷◌ (head_same e) i.0, i.1)

-- `]]>`

section_early : (c : ℕ) (y r s : List ℕ) → Without (codes "]]>") (c ∷ y) → 93 ∷ 93 ∷ 62 ∷ r ≡ c ∷ (y ++ (93 ∷ 93 ∷ 62 ∷ s)) → ⊥
section_early c [] r s w e = clash (tail_same (tail_same e)) tt
section_early c (d ∷ []) r s w e = clash (tail_same (tail_same e)) tt
section_early c (d ∷ f ∷ y) r s w e =
    w [] y (ap (λ z. z ∷ d ∷ f ∷ y) (sym (head_same e)) ∙ ap (λ z. 93 ∷ z ∷ f ∷ y) (sym (head_same (tail_same e))) ∙ ap (λ z. 93 ∷ 93 ∷ z ∷ y) (sym (head_same (tail_same (tail_same e)))))

pub section_same : (x y r s : List ℕ) → Without (codes "]]>") x → Without (codes "]]>") y → x ++ (93 ∷ 93 ∷ 62 ∷ r) ≡ y ++ (93 ∷ 93 ∷ 62 ∷ s) → (x ≡ y) × (r ≡ s)
section_same x y r s w v e = until (λ z. 93 ∷ 93 ∷ 62 ∷ z) (Without (codes "]]>")) (λ r s e. tail_same (tail_same (tail_same e))) (λ c x h. without_tail (codes "]]>") c x h) section_early x y r s w v e

-- `-->`

abbrev NoHyphens : List ℕ → Type 0
NoHyphens x = Without (codes "--") (x ++ codes "-")

comment_early : (c : ℕ) (y r s : List ℕ) → NoHyphens (c ∷ y) → 45 ∷ 45 ∷ 62 ∷ r ≡ c ∷ (y ++ (45 ∷ 45 ∷ 62 ∷ s)) → ⊥
comment_early c [] r s w e = w [] [] (ap (λ z. z ∷ 45 ∷ []) (sym (head_same e)))
comment_early c (d ∷ y) r s w e =
    w [] (y ++ codes "-") (ap (λ z. z ∷ d ∷ (y ++ codes "-")) (sym (head_same e)) ∙ ap (λ z. 45 ∷ z ∷ (y ++ codes "-")) (sym (head_same (tail_same e))))

pub comment_same : (x y r s : List ℕ) → Without (codes "--") (x ++ codes "-") → Without (codes "--") (y ++ codes "-") → x ++ (45 ∷ 45 ∷ 62 ∷ r) ≡ y ++ (45 ∷ 45 ∷ 62 ∷ s) → (x ≡ y) × (r ≡ s)
comment_same x y r s w v e = until (λ z. 45 ∷ 45 ∷ 62 ∷ z) NoHyphens (λ r s e. tail_same (tail_same (tail_same e))) (λ c x h. without_tail (codes "--") c (x ++ codes "-") h) comment_early x y r s w v e

-- `?>`

instruction_early : (c : ℕ) (y r s : List ℕ) → Without (codes "?>") (c ∷ y) → 63 ∷ 62 ∷ r ≡ c ∷ (y ++ (63 ∷ 62 ∷ s)) → ⊥
instruction_early c [] r s w e = clash (tail_same e) tt
instruction_early c (d ∷ y) r s w e = w [] y (ap (λ z. z ∷ d ∷ y) (sym (head_same e)) ∙ ap (λ z. 63 ∷ z ∷ y) (sym (head_same (tail_same e))))

instruction_same : (x y r s : List ℕ) → Without (codes "?>") x → Without (codes "?>") y → x ++ (63 ∷ 62 ∷ r) ≡ y ++ (63 ∷ 62 ∷ s) → (x ≡ y) × (r ≡ s)
instruction_same x y r s w v e = until (λ z. 63 ∷ 62 ∷ z) (Without (codes "?>")) (λ r s e. tail_same (tail_same e)) (λ c x h. without_tail (codes "?>") c x h) instruction_early x y r s w v e

-- white space holds no question mark
without_space : (space d : List ℕ) → ZeroOrMore is_space space → Without (codes "?>") d → Without (codes "?>") (space ++ d)
without_space [] d h w a b e = w a b e
without_space (x ∷ space) d h w [] b e = each_space (λ v. v ≡ 63 → ⊥) (λ q. clash (ap (λ z. z ∷ []) q) tt) (λ q. clash (ap (λ z. z ∷ []) q) tt) (λ q. clash (ap (λ z. z ∷ []) q) tt) (λ q. clash (ap (λ z. z ∷ []) q) tt) x h.0 (head_same e)
without_space (x ∷ space) d h w (y ∷ a) b e = without_space space d h.1 w a b (tail_same e)

without_nil : (s : List ℕ) (c : ℕ) → Without (c ∷ s) []
without_nil s c [] b e = no_nil e
without_nil s c (x ∷ a) b e = no_nil e

instruction_text : (space text : List ℕ) → PIText space text → Without (codes "?>") (space ++ text)
instruction_text [] text h = subst (Without (codes "?>")) (sym h) (without_nil (codes ">") 63)
instruction_text (x ∷ space) text h = without_space (x ∷ space) text h.0 h.2

-- what follows two instructions that are spelled alike, after their targets
pub instruction_ends : (space text space' text' r s : List ℕ) → PIText space text → PIText space' text' → space ++ (text ++ (63 ∷ 62 ∷ r)) ≡ space' ++ (text' ++ (63 ∷ 62 ∷ s)) → r ≡ s
instruction_ends space text space' text' r s h k e =
    (instruction_same (space ++ text) (space' ++ text') r s (instruction_text space text h) (instruction_text space' text' k)
    (append_assoc space text (63 ∷ 62 ∷ r) ∙ e ∙ sym (append_assoc space' text' (63 ∷ 62 ∷ s)))).1
