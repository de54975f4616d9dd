-- The table of known texts: each definition computes to its text.
use Rattle.std.proofs.Common.{refl}
use lib.Ieee.{round, eq, of_bits, to_bits, mul, div, sub, of_int, le}
use Rattle.std.specs.Fmt.{digits}
use Rattle.std.specs.Float.{is_sign_negative, round_with, float_with_sign}
use Rattle.digits.specs.Magnitudes.{grains}
use Rattle.digits.specs.Bare.{bare}
use Rattle.digits.specs.Rounded.{rounded}
use Rattle.digits.specs.Theorems.{KnownTexts}

pub known_texts : KnownTexts
unfolding round eq of_bits to_bits is_sign_negative digits mul div sub of_int le round_with float_with_sign grains bare rounded
known_texts = (refl, refl, refl, refl)
