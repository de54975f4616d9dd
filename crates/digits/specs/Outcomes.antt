-- What each call answers, for all arguments: a text, or why there is none.
use Rattle.std.specs.Prelude.{◌≡◌, ℕ, Bool, true, false, cond, List, Ok, Err, Result, nat_le, Float}
use Rattle.digits.specs.declared.numerals.Numeral.{Numeral}
use Rattle.digits.specs.declared.showing.NumberFault.{NumberFault}
use Rattle.digits.specs.declared.showing.NumberFault.TheVariants.{OutsideDomain, PrecisionAboveEight}
use Rattle.digits.specs.Magnitudes.{bare_domain, rounded_domain}
use Rattle.digits.specs.Bare.{bare}
use Rattle.digits.specs.Rounded.{rounded}
use Rattle.digits.specs.Numerals.{text_of}

-- an answer with the numeral's text in its place
abbrev pub shown : Result Numeral NumberFault → Result (List ℕ) NumberFault
shown (Ok n) = Ok (text_of n)
shown (Err f) = Err f

abbrev pub bare_outcome : Float → Result (List ℕ) NumberFault
bare_outcome x = cond (bare_domain x) (Ok (bare x)) (Err OutsideDomain)

-- the precision is looked at first
abbrev pub rounded_outcome : ℕ → Float → Result (List ℕ) NumberFault
rounded_outcome p x = cond (nat_le p 8) (cond (rounded_domain x) (Ok (rounded p x)) (Err OutsideDomain)) (Err PrecisionAboveEight)

-- a call that was given `old`, answered whether there is a text, and left `new`
abbrev pub LeftWith : Result (List ℕ) NumberFault → List ℕ → Bool → List ℕ → Type 0
LeftWith (Ok bs) old r new = (r ≡ true) × (new ≡ bs)
LeftWith (Err f) old r new = (r ≡ false) × (new ≡ old)
