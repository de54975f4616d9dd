-- The steps of a loop over a list or over a range of numbers.
use Rattle.std.proofs.Common.{◌≡◌, ℕ, suc, ◌+◌, ◌-◌, ◌<◌, ◌≤◌, List, length, get_or, drop, Ok, Err, sym, ap, ◌∙◌, arith}
use Rattle.std.proofs.lemmas.List.{at_drop_more, at_drop_all}
use Rattle.drawing.specs.declared.faults.AttributeFault.{AttributeFault}
use Rattle.checks.specs.declared.entries.Rule.{Rule}
use Rattle.checks.specs.Verdicts.{Verdict, before, count_up}
use Rattle.checks.specs.Entries.{Fields, first_at, each}

-- one rule over the entries of each of a list: one more passed
each_more : {X : Type 0} (rule : Rule) (fields : X → Fields) (xs : List X) (i : ℕ) (d : X) → i < length xs
    → first_at rule (fields (get_or xs i d)) ≡ Ok tt → first_at rule (each fields (drop (i + 1) xs)) ≡ first_at rule (each fields (drop i xs))
unfolding each
each_more rule fields xs i d h e =
    sym (at_drop_more (λ l. first_at rule (each fields l)) xs i d h ∙ ap (λ r. before r (first_at rule (each fields (drop (i + 1) xs)))) e)

-- it did not
each_bad : {X : Type 0} (rule : Rule) (fields : X → Fields) (xs : List X) (i : ℕ) (d : X) (f : AttributeFault) → i < length xs
    → first_at rule (fields (get_or xs i d)) ≡ Err f → first_at rule (each fields (drop i xs)) ≡ Err f
unfolding each
each_bad rule fields xs i d f h e =
    at_drop_more (λ l. first_at rule (each fields l)) xs i d h ∙ ap (λ r. before r (first_at rule (each fields (drop (i + 1) xs)))) e

-- all did
pub each_all : {X : Type 0} (rule : Rule) (fields : X → Fields) (xs : List X) (i : ℕ) → length xs ≤ i → first_at rule (each fields (drop i xs)) ≡ Ok tt
unfolding each
each_all rule fields xs i h = at_drop_all (λ l. first_at rule (each fields l)) xs i h

-- the exit of a `?` in such a loop: q is what the test gave, r what is returned
pub each_exit : {X : Type 0} (rule : Rule) (fields : X → Fields) (xs : List X) (i : ℕ) (d : X) (q r : Verdict AttributeFault) (f : AttributeFault)
    → first_at rule (each fields (drop i xs)) ≡ first_at rule (each fields xs)
    → q ≡ first_at rule (fields (get_or xs i d)) → i < length xs → q ≡ Err f → r ≡ Err f → r ≡ first_at rule (each fields xs)
each_exit rule fields xs i d q r f inv e h b g = g ∙ sym (each_bad rule fields xs i d f h (sym e ∙ b)) ∙ inv

-- the next turn
pub each_again : {X : Type 0} (rule : Rule) (fields : X → Fields) (xs : List X) (i : ℕ) (d : X) (q : Verdict AttributeFault)
    → first_at rule (each fields (drop i xs)) ≡ first_at rule (each fields xs)
    → q ≡ first_at rule (fields (get_or xs i d)) → i < length xs → q ≡ Ok tt → first_at rule (each fields (drop (i + 1) xs)) ≡ first_at rule (each fields xs)
each_again rule fields xs i d q inv e h b = each_more rule fields xs i d h (sym e ∙ b) ∙ inv

-- a loop over numbers
one_less : (to i : ℕ) → i < to → to - i ≡ suc (to - (i + 1))
one_less to i h = omega arith

pub count_more : {F : Type 0} (test : ℕ → Verdict F) (to i : ℕ) → i < to → test i ≡ Ok tt → count_up test (to - (i + 1)) (i + 1) ≡ count_up test (to - i) i
unfolding count_up
count_more test to i h e = sym (ap (λ n. count_up test n i) (one_less to i h) ∙ ap (λ r. before r (count_up test (to - (i + 1)) (i + 1))) e)

pub count_bad : {F : Type 0} (test : ℕ → Verdict F) (to i : ℕ) (f : F) → i < to → test i ≡ Err f → count_up test (to - i) i ≡ Err f
unfolding count_up
count_bad test to i f h e = ap (λ n. count_up test n i) (one_less to i h) ∙ ap (λ r. before r (count_up test (to - (i + 1)) (i + 1))) e

pub count_all : {F : Type 0} (test : ℕ → Verdict F) (to i : ℕ) → to ≤ i → count_up test (to - i) i ≡ Ok tt
unfolding count_up
count_all test to i h = let e : to - i ≡ 0 = omega arith in ap (λ n. count_up test n i) e
