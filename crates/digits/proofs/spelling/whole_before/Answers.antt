use Rattle.std.proofs.Common.{◌≡◌, ℕ, ◌^◌, ◌<◌, ◌≤◌, List, [], ◌∷◌, ◌++◌, length, decimal, append_assoc, sym, ap, ◌∙◌, ◌+◌, ◌%◌, arith, length-append}
use Rattle.std.proofs.lemmas.Fmt.{decimal_step, decimal_digit, decimal_nonempty}
use Rattle.digits.proofs.spelling.whole_before.Goals as goal

-- what is left to write and what is written take as much room as the whole
room : (r n : ℕ) (t o : List ℕ) → decimal r ++ t ≡ decimal n ++ o → r < 2 ^ 64 → length o + length (decimal n) ≤ 32 → length t < 32
room r n t o e small h =
    let a = ap length e in
    let b = length-append (decimal r) t in
    let d = length-append (decimal n) o in
    let s = decimal_nonempty r small in
    omega arith

pub digit_before-rest-requires : goal.digit_before-rest-requires
digit_before-rest-requires c = room _ _ _ _ c.loop-rest.invariant.text (omega arith) c.requires

pub loop-rest-preserved : goal.loop-rest-preserved
loop-rest-preserved c =
    let s = decimal_step c.loop-rest.rest (omega arith) (omega arith) in
    record {
      text = rw (c.digit_before-rest.ensures.rest, c.digit_before-rest.ensures.text) (sym (append_assoc _ (_ ∷ []) _) ∙ rw (← s) c.loop-rest.invariant.text);
      smaller = omega arith;
    }

pub digit_before-requires : goal.digit_before-requires
digit_before-requires c = room _ _ _ _ c.loop-rest.invariant.text (omega arith) c.requires

pub returns : goal.returns
returns c =
    let d = decimal_digit c.loop-rest.rest (omega arith) in
    let m : c.loop-rest.rest % 10 ≡ c.loop-rest.rest = omega arith in
    rw (c.digit_before.ensures.text, m) (rw d at c.loop-rest.invariant.text)
