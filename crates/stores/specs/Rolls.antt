-- A roll: records of 64 bytes. The low six bits of a record's first byte count its text bytes; the text follows;
-- zeros fill the rest; a record is full before the next begins.
use Rattle.std.specs.Prelude.{◌≡◌, ℕ, zero, suc, ◌-◌, ◌*◌, ◌/◌, ◌%◌, ◌≤◌, List, [], ◌∷◌, ◌++◌, length, take, drop, slice_index}
use Rattle.std.proofs.Common.{arith, length-take, length-append}
use Rattle.stores.specs.Reach.{reach}
use Rattle.stores.specs.Seen.{Seen, size_of}
use Rattle.stores.specs.Pages.{zeros}

-- Writing: the record of a text of at most 63 bytes, and the image of n records that hold a text.

abbrev pub record_image : List ℕ → List ℕ
record_image text = length text ∷ (text ++ zeros (63 - length text))

abbrev pub roll_image : ℕ → List ℕ → List ℕ
roll_image zero held = []
roll_image (suc n) held = record_image (take 63 held) ++ roll_image n (drop 63 held)

-- Reading: the text of one record by its count, and the texts of n records joined.

abbrev pub record_text : List ℕ → List ℕ
record_text bytes = take (slice_index bytes 0 % 64) (take 63 (drop 1 bytes))

abbrev pub roll_text : ℕ → List ℕ → List ℕ
roll_text zero bytes = []
roll_text (suc n) bytes = record_text (take 64 bytes) ++ roll_text n (drop 64 bytes)

-- a reader of a roll's raw bytes joins the texts of the whole records in reach
abbrev pub read_roll : List ℕ → List ℕ
read_roll bytes = roll_text (reach bytes / 64) bytes

-- It gives back any text that was laid out.
abbrev pub RollReadsBack : Type 0
RollReadsBack = (n : ℕ) (held beyond : List ℕ) → length held ≤ 63 * n → roll_text n (roll_image n held ++ beyond) ≡ held

-- how many records a roll has, by its size
abbrev pub records_of : Seen → ℕ
records_of s = size_of s / 63

-- what is true of every roll's fields
pub record IsRoll (records len : ℕ) (buffer : List ℕ) : Type 0 where
  pub sized : records ≡ reach buffer / 64
  pub laid : take (64 * records) buffer ≡ roll_image records (roll_text records buffer)
  pub counted : len ≡ length (roll_text records buffer)
  pub fits : len ≤ 63 * records

-- a record's text has at most 63 bytes, whatever the bytes are
pub roll_text_within : (n : ℕ) (bytes : List ℕ) → length (roll_text n bytes) ≤ 63 * n
roll_text_within zero bytes = omega arith
roll_text_within (suc n) bytes =
    let rest = roll_text_within n (drop 64 bytes) in
    let front : length (record_text (take 64 bytes)) ≤ 63 = rw (length-take, length-take) (omega arith) in
    rw length-append (omega arith)
