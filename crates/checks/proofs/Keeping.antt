-- Each entry's verdict accepts exactly when the entry keeps its rule, and a fault has that rule's number.
use Rattle.std.proofs.Common.{◌≡◌, ℕ, ◌+◌, ◌<◌, ◌≤◌, Bool, true, false, cond, not, eqb, ltb, leb, List, [], ◌∷◌, length, Ok, Err, Decides, refl, arith}
use Rattle.std.specs.List.{AllByRecursion, list_all}
use Rattle.std.proofs.lemmas.Bool.{leb-true, le-leb}
use Rattle.std.proofs.lemmas.Bool.Decides.{nat_tests, Decides-and, Decides-ltb}
use Rattle.drawing.specs.declared.faults.ValueFault.{ValueFault}
use Rattle.drawing.specs.declared.faults.ValueFault.TheVariants as fault
use Rattle.drawing.specs.declared.faults.IdFault.TheVariants.{Missing, TooLong, BadByte}
use Rattle.drawing.specs.declared.faults.NumberFault.TheVariants.{OutsideDomain, OutOfRange}
use Rattle.drawing.specs.Faults.{value_number}
use Rattle.drawing.specs.declared.rows.PathSegment.{PathSegment}
use Rattle.drawing.specs.declared.rows.PathSegment.TheVariants.{MoveTo, LineTo, QuadTo, CubicTo, Close}
use Rattle.checks.specs.Verdicts.{Verdict, verdict_of, accepts}
use Rattle.checks.specs.Ids.{id_byte, id_verdict, reference_verdict}
use Rattle.checks.specs.Numbers.{number_verdict}
use Rattle.checks.specs.Texts.{character_bound}
use Rattle.checks.specs.Entries.{Entry, row_in, place_in, at_most, own_id, referenced_id, not_empty, begins_with_move, number_in, text_of, span_of, family_name, rule_of, rule_number, moves_first, entry_verdict}
use Rattle.checks.specs.Sound.{Id, CharacterBound, Keeps}
use Rattle.checks.proofs.Scans.{decides_text}

-- ---- tests and what they decide

pub decides_le : (a b : ℕ) → Decides (leb a b) (a ≤ b)
decides_le a b = (leb-true a b, le-leb a b)

decides_itself : (b : Bool) → Decides b (b ≡ true)
decides_itself b = ((λ e. e), (λ e. e))

decides_every : {X : Type 0} (test : X → Bool) (xs : List X) → Decides (list_all test xs) (AllByRecursion (λ x. test x ≡ true) xs)
decides_every test [] = ((λ _. tt), (λ _. refl))
decides_every test (x ∷ xs) = Decides-and _ _ (decides_itself (test x)) (decides_every test xs)

decides_verdict : {P : Type 0} (b : Bool) (f : ValueFault) → Decides b P → Decides (accepts (verdict_of b f)) P
decides_verdict true f p = p
decides_verdict false f p = p

-- a test comes first: it has to fail, or to hold
decides_unless : {P Q : Type 0} (b : Bool) (f : ValueFault) (v : Verdict ValueFault) → Decides (not b) P → Decides (accepts v) Q → Decides (accepts (cond b (Err f) v)) (P × Q)
decides_unless true f v p q = Decides-and false (accepts v) p q
decides_unless false f v p q = Decides-and true (accepts v) p q

decides_if : {P Q : Type 0} (b : Bool) (f : ValueFault) (v : Verdict ValueFault) → Decides b P → Decides (accepts v) Q → Decides (accepts (cond b v (Err f))) (P × Q)
decides_if true f v p q = Decides-and true (accepts v) p q
decides_if false f v p q = Decides-and false (accepts v) p q

-- ---- each kind of entry

decides_id : (bytes : List ℕ) → Decides (accepts (id_verdict bytes)) (Id bytes)
unfolding id_verdict
decides_id bytes = decides_unless _ _ _ (short (length bytes)) (decides_verdict _ _ (decides_every id_byte bytes))
  where
    short : (n : ℕ) → Decides (not (ltb 64 n)) (n ≤ 64)
    short n = ((λ e. grind (arith, nat_tests)), (λ e. grind (arith, nat_tests)))

decides_reference : (bytes : List ℕ) → Decides (accepts (reference_verdict bytes)) ((0 < length bytes) × Id bytes)
unfolding reference_verdict
decides_reference bytes = decides_unless _ _ _ (positive (length bytes)) (decides_id bytes)
  where
    positive : (n : ℕ) → Decides (not (eqb n 0)) (0 < n)
    positive n = ((λ e. grind (arith, nat_tests)), (λ e. grind (arith, nat_tests)))

decides_move : (segments : List PathSegment) → Decides (moves_first segments) (Keeps (begins_with_move segments))
decides_move [] = ((λ e. cc), (λ (p, others, k). cc))
decides_move (MoveTo p ∷ others) = ((λ _. (p, others, refl)), (λ _. refl))
decides_move (LineTo p ∷ others) = ((λ e. cc), (λ (p, others, k). cc))
decides_move (QuadTo p q ∷ others) = ((λ e. cc), (λ (p, others, k). cc))
decides_move (CubicTo p q r ∷ others) = ((λ e. cc), (λ (p, others, k). cc))
decides_move (Close ∷ others) = ((λ e. cc), (λ (p, others, k). cc))

decides_bound : (bytes : List ℕ) (i : ℕ) → Decides (character_bound bytes i) (CharacterBound bytes i)
decides_bound bytes i = ((λ e. grind (arith, nat_tests)), (λ e. grind (arith, nat_tests)))

pub decides_entry : (e : Entry) → Decides (accepts (entry_verdict e)) (Keeps e)
unfolding number_verdict
decides_entry (row_in length row) = decides_verdict _ _ (Decides-ltb row length)
decides_entry (place_in length place) = decides_verdict _ _ (decides_le (place.start + place.count) length)
decides_entry (at_most limit count) = decides_verdict _ _ (decides_le count limit)
decides_entry (own_id bytes) = decides_id bytes
decides_entry (referenced_id bytes) = decides_reference bytes
decides_entry (not_empty count) = decides_verdict _ _ (Decides-ltb 0 count)
decides_entry (begins_with_move segments) = decides_verdict _ _ (decides_move segments)
decides_entry (number_in domain x) = decides_if _ _ _ (decides_itself _) (decides_verdict _ _ (decides_itself _))
decides_entry (text_of bytes) = decides_verdict _ _ (decides_text bytes)
decides_entry (span_of bytes start end) =
    decides_verdict _ _ (Decides-and _ _ (decides_le start end) (Decides-and _ _ (decides_bound bytes start) (decides_bound bytes end)))
decides_entry (family_name bytes) = decides_verdict _ _ (decides_every _ bytes)

-- ---- the rule that a fault names

record Numbered (n : ℕ) (v : Verdict ValueFault) : Type 0 where
  tells : (f : ValueFault) → v ≡ Err f → value_number f ≡ n

accepted : {n : ℕ} → Numbered n (Ok tt)
accepted = record { tells = λ f e. cc }

named : (f : ValueFault) → Numbered (value_number f) (Err f)
named f = record { tells = λ g e. cc }

either : {n : ℕ} {v w : Verdict ValueFault} (b : Bool) → Numbered n v → Numbered n w → Numbered n (cond b v w)
either true p q = p
either false p q = q

numbered_id : (bytes : List ℕ) → Numbered 4 (id_verdict bytes)
unfolding id_verdict
numbered_id bytes = either _ (named (fault.Id TooLong)) (either _ accepted (named (fault.Id BadByte)))

numbered : (e : Entry) → Numbered (rule_number (rule_of e)) (entry_verdict e)
unfolding reference_verdict number_verdict
numbered (row_in length row) = either _ accepted (named fault.Place)
numbered (place_in length place) = either _ accepted (named fault.Place)
numbered (at_most limit count) = either _ accepted (named fault.Place)
numbered (own_id bytes) = numbered_id bytes
numbered (referenced_id bytes) = either _ (named (fault.Id Missing)) (numbered_id bytes)
numbered (not_empty count) = either _ accepted (named fault.Empty)
numbered (begins_with_move segments) = either _ accepted (named fault.Empty)
numbered (number_in domain x) = either _ (either _ accepted (named (fault.Number OutOfRange))) (named (fault.Number OutsideDomain))
numbered (text_of bytes) = either _ accepted (named fault.Text)
numbered (span_of bytes start end) = either _ accepted (named fault.Text)
numbered (family_name bytes) = either _ accepted (named fault.Family)

pub entry_fault : (e : Entry) (f : ValueFault) → entry_verdict e ≡ Err f → value_number f ≡ rule_number (rule_of e)
entry_fault e f k = (numbered e).tells f k
