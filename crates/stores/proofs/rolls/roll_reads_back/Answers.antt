use Rattle.std.proofs.Common.{◌*◌, ◌++◌}
use Rattle.std.proofs.lemmas.List.{take_at}
use Rattle.stores.specs.Rolls.{roll_image}
use Rattle.stores.proofs.Records.{image_reads, roll_length}
use Rattle.stores.proofs.rolls.roll_reads_back.Goals as goal

pub returns : goal.returns
returns c = λ n held beyond l. image_reads n (roll_image n held ++ beyond) held l (take_at (roll_image n held) beyond (64 * n) (roll_length n held))
