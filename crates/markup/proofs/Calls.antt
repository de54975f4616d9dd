-- Laws of a call on a pen: once settled, it wrote all of its bytes or none.
use Rattle.std.proofs.Common.{◌≡◌, ℕ, ◌+◌, ◌-◌, ◌<◌, ◌≤◌, Bool, true, false, cond, leb, List, ◌++◌, length, take, sym, refl, ap, ◌∙◌, ⊎_elim, arith, length-append}
use Rattle.std.proofs.lemmas.Bool.{cases_lt}
use Rattle.std.proofs.lemmas.Bool.Decides.{nat_tests}
use Rattle.markup.specs.Pens.{PenState, pen, after, fits, settled, all_fit, called}
use Rattle.markup.proofs.Chains.{after_fits, after_lost, after_capacity, after_held, after_front}

-- writing takes nothing away
after_long : (s : PenState) (x : List ℕ) → length s.held ≤ length (after s x).held
after_long s x = let p = after_held s x in rw p.1 (simp length-append (omega arith))

pub fits_after : (s : PenState) (x : List ℕ) (n : ℕ) → length s.held ≤ s.capacity → fits (after s x) n ≡ all_fit s x n
fits_after s x n l =
    ⊎_elim
    (λ (k : s.capacity < length s.held + length x). let e = after_lost s x l k in grind (arith, nat_tests, length-append s.held x))
    (λ (k : length s.held + length x ≤ s.capacity). rw (after_fits s x k) (grind (arith, nat_tests, length-append s.held x)))
    (cases_lt s.capacity (length s.held + length x))

settled_after : (s : PenState) (x : List ℕ) (n : ℕ) → length s.held ≤ s.capacity → settled (after s x) (length s.held) n ≡ called s x n
settled_after s x n l =
    ap (λ b. cond b (after s x) (pen (take (length s.held) (after s x).held) (after s x).capacity false)) (fits_after s x n l) ∙ go (all_fit s x n) refl
  where
    go : (b : Bool) → all_fit s x n ≡ b →
        cond b (after s x) (pen (take (length s.held) (after s x).held) (after s x).capacity false) ≡ pen (cond b (s.held ++ x) s.held) s.capacity false
    go true e = let k : (s.lost ≡ false) × (length s.held + length x ≤ s.capacity) = grind (arith, nat_tests, length-append s.held x) in after_fits s x k.1 ∙ ap (pen (s.held ++ x) s.capacity) k.0
    go false e = let f = after_front s x in let c = after_capacity s x in cc

-- the same, from what the writers and `settle` ensure
pub settled_call : (s : PenState) (x : List ℕ) (n mark : ℕ) (written left : PenState) → length s.held ≤ s.capacity → mark ≡ length s.held →
    written ≡ after s x → (mark ≤ length written.held → left ≡ settled written mark n) → left ≡ called s x n
settled_call s x n mark written left l m w f =
    let a = after_long s x in
    let e : mark ≤ length written.held = rw w (omega arith) in
    f e ∙ ap (λ z. settled z mark n) w ∙ ap (λ z. settled (after s x) z n) m ∙ settled_after s x n l
