-- Decimal numbers as the library reads them.
use Rattle.std.proofs.Common.{rules, arith, OkIff, length, ◌≡◌, ℕ, ◌+◌, ◌-◌, ◌*◌, ◌<◌, ◌≤◌, ◌^◌, true, false, List, [], ◌∷◌, get_or, Ok, Err, Result, Some, None, SomeIff, MatchResult, eqb, ◌≢◌}
use mathlib.Core.Bool.{false≢true}
use Rattle.std.specs.Result.{result_ok}
use Rattle.std.specs.Str.{IsUtf8}
use Rattle.std.specs.Str.Parse.{ParsesUnsigned}
use Rattle.std.specs.List.{starts_with}
use Rattle.std.proofs.lemmas.Fmt.{IsAscii-from_digits}
use Rattle.std.proofs.lemmas.Str.{IsUtf8-from_ascii}
use Rattle.std.proofs.lemmas.Str.Parse.{IsNumeralModel, numerals_by_fold, parse_plain}
use Rattle.scripts.specs.Numbers.{digits, value_after, value, Numeral}

own : IsNumeralModel (λ ds. digits ds ≡ true) (value_after 0)
unfolding digits value_after
own = numerals_by_fold _ (search rules) value_after (search rules)

-- a plus is no digit
pub plus : (word : List ℕ) → starts_with eqb word (43 ∷ []) ≡ true → Numeral word → ⊥
unfolding digits
plus [] e n = absurd (false≢true e)
plus (b ∷ bs) e n = search rules

no_plus : (word : List ℕ) → starts_with eqb word (43 ∷ []) ≡ false → get_or word 0 0 ≢ 43
no_plus [] e = search rules
no_plus (b ∷ bs) e = search rules

-- what is no text is no numeral
pub no_text : {S E : Type 0} (r : Result S E) (P : S → Type 0) (Q : E → Type 0) (word : List ℕ) → MatchResult r P (λ e. ¬ (IsUtf8 word) × Q e) → result_ok r ≡ None → Numeral word → ⊥
no_text (Ok s) P Q word m e n = cc
no_text (Err x) P Q word m e n = m.0 (IsUtf8-from_ascii word (IsAscii-from_digits word (own.to word n.1)))

pub text_is : {S E : Type 0} (now : S → List ℕ) (r : Result S E) (s : S) (Q : S → Type 0) (R : E → Type 0) (word : List ℕ) → MatchResult r (λ s. (now s ≡ word) × Q s) R → result_ok r ≡ Some s → now s ≡ word
text_is now (Ok x) s Q R word m e = cc (m.0)
text_is now (Err x) s Q R word m e = cc

pub text_parsed : {E : Type 0} (r : Result ℕ E) (word text : List ℕ) → text ≡ word → starts_with eqb word (43 ∷ []) ≡ false → ParsesUnsigned 64 10 text r → SomeIff (result_ok r) (Numeral word × (value word < 2 ^ 64)) (value word)
text_parsed r word text e s h = at r (parse_plain own 64 word r (rw e at h) (no_plus word s))
  where
    at : {E : Type 0} (r : Result ℕ E) → OkIff r ((digits word ≡ true) × (0 < length word) × (value word < 2 ^ 64)) (value word) → SomeIff (result_ok r) (Numeral word × (value word < 2 ^ 64)) (value word)
    at (Ok x) k = (((k.0.1, k.0.0), k.0.2), k.1)
    at (Err x) k = λ n. k (n.0.1, n.0.0, n.1)

-- more digits never lessen the value
pub value_grows : (v : ℕ) (bs : List ℕ) → v ≤ value_after v bs
unfolding value_after
value_grows v [] = omega arith
value_grows v (b ∷ bs) = omega (arith, value_grows (v * 10 + (b - 48)) bs)
