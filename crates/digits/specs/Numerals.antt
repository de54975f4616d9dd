-- The text that a numeral holds.
use Rattle.std.specs.Prelude.{ℕ, ◌-◌, List, drop}
use Rattle.digits.specs.declared.numerals.Numeral.{Numeral}

-- the last `length` of its 32 bytes
unfoldable pub text_of : Numeral → List ℕ
text_of n = drop (32 - n.length) n.bytes
