use Rattle.std.specs.Prelude.{ℕ, false, List, [], Some, None, Option}
use Rattle.std.specs.Borrow.{Bor}
use Rattle.drawing.specs.declared.options.WriteOptions.{WriteOptions}

abbrev pub defaults : WriteOptions
defaults = record {
  id_prefix = None;
  preserve_text = false;
  coordinates_precision = 8;
  transforms_precision = 8;
  use_single_quote = false;
}

abbrev pub bytes_of : Option (Bor (List ℕ)) → List ℕ
bytes_of None = []
bytes_of (Some bytes) = bytes.now

-- the bytes before every id, none where there is no prefix
abbrev pub prefix_of : WriteOptions → List ℕ
prefix_of o = bytes_of o.id_prefix
