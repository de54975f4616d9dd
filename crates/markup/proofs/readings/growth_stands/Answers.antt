use Rattle.markup.proofs.Unfinished.{growth, growth_of_names}
use Rattle.markup.proofs.Legal.{legal_steps, encoded_so_far}
use Rattle.markup.proofs.readings.growth_stands.Goals as goal

pub returns : goal.returns
returns c = record { bytes = growth; names = growth_of_names; legal = legal_steps; encoded = encoded_so_far }
