-- The rule for a call's options.
use Rattle.std.specs.Prelude.{ℕ, Bool, ◌&&◌, List, length, nat_le}
use Rattle.drawing.specs.declared.options.WriteOptions.{WriteOptions}
use Rattle.drawing.specs.Options.{prefix_of}
use Rattle.checks.specs.Ids.{id_bytes}

-- at most 32 id bytes
abbrev pub prefix_stands : List ℕ → Bool
prefix_stands prefix = nat_le (length prefix) 32 && id_bytes prefix

-- no precision above 8, and a prefix by its rule
abbrev pub settings_stand : WriteOptions → Bool
settings_stand o = nat_le o.coordinates_precision 8 && (nat_le o.transforms_precision 8 && prefix_stands (prefix_of o))
