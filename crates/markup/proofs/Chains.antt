-- Laws of a pen: writing part by part is writing the whole.
use Rattle.std.proofs.Common.{◌≡◌, ℕ, ◌+◌, ◌-◌, ◌<◌, ◌≤◌, Bool, true, false, cond, leb, List, [], ◌∷◌, ◌++◌, length, take, sym, refl, ap, ◌∙◌, ⊎_elim, arith, length-append, le-ltb, lt-ltb, le-leb}
use borrow.Author.Tests.{lt-leb}
use Rattle.std.proofs.lemmas.List.{append-nil, append_assoc, take_at, length_push}
use Rattle.std.proofs.lemmas.Bool.{cases_lt}
use Rattle.markup.specs.Pens.{PenState, pen, step, after, afters, joined, fits, settled}

pub after_after : (s : PenState) (x y : List ℕ) → after (after s x) y ≡ after s (x ++ y)
after_after s [] y = refl
after_after s (b ∷ x) y = after_after (step s b) x y

pub after_push : (s : PenState) (x : List ℕ) (b : ℕ) → step (after s x) b ≡ after s (x ++ b ∷ [])
after_push s x b = after_after s x (b ∷ [])

pub afters_joined : (s : PenState) (xs : List (List ℕ)) → afters s xs ≡ after s (joined xs)
afters_joined s [] = refl
afters_joined s (x ∷ xs) = afters_joined (after s x) xs ∙ after_after s x (joined xs)

pub step_fits : (s : PenState) (b : ℕ) → length s.held < s.capacity → step s b ≡ record { held = s.held ++ b ∷ []; capacity = s.capacity; lost = s.lost }
unfolding step
step_fits s b p = rw (lt-ltb (length s.held) s.capacity p)

pub step_full : (s : PenState) (b : ℕ) → s.capacity ≤ length s.held → step s b ≡ record { held = s.held; capacity = s.capacity; lost = true }
unfolding step
step_full s b p = rw (le-ltb (length s.held) s.capacity p)

-- where it fits, x is appended
pub after_fits : (s : PenState) (x : List ℕ) → length s.held + length x ≤ s.capacity → after s x ≡ record { held = s.held ++ x; capacity = s.capacity; lost = s.lost }
after_fits s [] h = rw append-nil
after_fits s (b ∷ x) h =
    let e = step_fits s b (omega arith) in
    let t : PenState = record { held = s.held ++ b ∷ []; capacity = s.capacity; lost = s.lost } in
    ap (λ z. after z x) e ∙ after_fits t x (simp length_push (omega arith)) ∙ rw append_assoc

-- a full state stays, and has lost what comes
pub after_full : (s : PenState) (b : ℕ) (x : List ℕ) → s.capacity ≤ length s.held → after s (b ∷ x) ≡ record { held = s.held; capacity = s.capacity; lost = true }
after_full s b [] h = step_full s b h
after_full s b (d ∷ x) h = ap (λ z. after z (d ∷ x)) (step_full s b h) ∙ after_full (record { held = s.held; capacity = s.capacity; lost = true }) d x h

pub step_capacity : (s : PenState) (b : ℕ) → (step s b).capacity ≡ s.capacity
step_capacity s b = ⊎_elim (λ h. ap (λ (z : PenState). z.capacity) (step_fits s b h)) (λ h. ap (λ (z : PenState). z.capacity) (step_full s b h)) (cases_lt (length s.held) s.capacity)

pub after_capacity : (s : PenState) (x : List ℕ) → (after s x).capacity ≡ s.capacity
after_capacity s [] = refl
after_capacity s (b ∷ x) = after_capacity (step s b) x ∙ step_capacity s b

pub step_held : (s : PenState) (b : ℕ) → (y : List ℕ) × ((step s b).held ≡ s.held ++ y)
step_held s b =
    ⊎_elim (λ h. (b ∷ [], ap (λ (z : PenState). z.held) (step_fits s b h))) (λ h. ([], ap (λ (z : PenState). z.held) (step_full s b h) ∙ sym (append-nil s.held))) (cases_lt (length s.held) s.capacity)

pub after_held : (s : PenState) (x : List ℕ) → (y : List ℕ) × ((after s x).held ≡ s.held ++ y)
after_held s [] = ([], sym (append-nil s.held))
after_held s (b ∷ x) =
    let p = step_held s b in
    let q = after_held (step s b) x in
    (p.0 ++ q.0, q.1 ∙ ap (λ z. z ++ q.0) p.1 ∙ append_assoc s.held p.0 q.0)

pub after_front : (s : PenState) (x : List ℕ) → take (length s.held) (after s x).held ≡ s.held
after_front s x = let p = after_held s x in ap (take (length s.held)) p.1 ∙ take_at s.held p.0 (length s.held) refl

pub after_lost : (s : PenState) (x : List ℕ) → length s.held ≤ s.capacity → s.capacity < length s.held + length x → (after s x).lost ≡ true
after_lost s [] l h = absurd (omega arith)
after_lost s (b ∷ x) l h =
    ⊎_elim
    (λ (k : length s.held < s.capacity).
    let t : PenState = record { held = s.held ++ b ∷ []; capacity = s.capacity; lost = s.lost } in
    ap (λ z. (after z x).lost) (step_fits s b k) ∙ after_lost t x (simp length_push (omega arith)) (simp length_push (omega arith)))
    (λ (k : s.capacity ≤ length s.held). ap (λ (z : PenState). z.lost) (after_full s b x k))
    (cases_lt (length s.held) s.capacity)

-- parts that make up y
pub parts : (s : PenState) (xs : List (List ℕ)) (y : List ℕ) → joined xs ≡ y → afters s xs ≡ after s y
parts s xs y e = afters_joined s xs ∙ ap (after s) e
