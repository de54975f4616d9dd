-- The table of known texts, by computing.
use Rattle.std.proofs.Common.{refl}
use lib.Ieee.{round, of_bits}
use Rattle.svg.specs.Colors.{a_color_word}
use Rattle.svg.specs.Samples.{SamplesStand}

pub samples_stand : SamplesStand
unfolding round of_bits a_color_word
samples_stand = (refl, refl)
