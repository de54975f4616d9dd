use Rattle.markup.proofs.Encodings.{escapes_of_bytes, from_bytes}
use Rattle.markup.proofs.readings.escapes_of_bytes_stand.Goals as goal

pub returns : goal.returns
returns c = record { escapes = escapes_of_bytes; decoded = from_bytes }
