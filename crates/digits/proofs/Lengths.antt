-- How long the parts of a number's text are.
use Rattle.std.proofs.Common.{ℕ, zero, suc, ◌+◌, ◌/◌, ◌^◌, ◌<◌, ◌≤◌, length, decimal, div-le_self, arith, lit<, length-append}
use Rattle.std.proofs.lemmas.Fmt.{length-decimal-le}
use Rattle.digits.specs.Decimals.{pointed}
use Rattle.digits.proofs.Texts.{length_figures}

pub length_pointed : (k n : ℕ) → length (pointed k n) ≤ k + 1
length_pointed zero n = omega arith
length_pointed (suc k) n = let e = length_figures (suc k) n in omega arith

pub length_number : (n : ℕ) → n < 2 ^ 64 → length (decimal n) ≤ 20
length_number n h = length-decimal-le 20 n (lit< tt) (omega arith) h

-- the whole part of a float has at most 13 digits
pub length_whole : (n k : ℕ) → n < 2 ^ 41 → length (decimal (n / 10 ^ k)) ≤ 13
length_whole n k h =
    let l = div-le_self n (10 ^ k) in
    length-decimal-le 13 (n / 10 ^ k) (lit< tt) (omega arith) (omega arith)

pub ruleset lengths = (length_figures, length_pointed, length_number, length_whole, length-append)
