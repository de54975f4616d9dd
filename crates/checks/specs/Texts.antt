-- The rule for texts.
use Rattle.std.specs.Prelude.{◌≡◌, ℕ, Bool, true, cond, not, ◌&&◌, ◌||◌, List, length, ◌==◌, nat_le, nat_lt, slice_index}
use Rattle.std.proofs.Math.Utf8.{encodes}
use Rattle.std.specs.Str.{chars, bytes_eq}
use Rattle.std.specs.List.{list_all}
use Rattle.checks.specs.Ids.{between}

-- Char of XML 1.0: #x9 | #xA | #xD | [#x20-#xD7FF] | [#xE000-#xFFFD] | [#x10000-#x10FFFF]
abbrev pub xml_char : ℕ → Bool
xml_char c = c == 9 || (c == 10 || (c == 13 || (between 0x20 0xD7FF c || (between 0xE000 0xFFFD c || between 0x10000 0x10FFFF c))))

-- some allowed characters have these bytes
abbrev pub Text : List ℕ → Type 0
Text bytes = (characters : List ℕ) × ((list_all xml_char characters ≡ true) × (encodes characters ≡ bytes))

-- as a test: the characters that the bytes decode to have these bytes and are allowed
unfoldable pub text_stands : List ℕ → Bool
text_stands bytes = bytes_eq (encodes (chars bytes)) bytes && list_all xml_char (chars bytes)

-- the end of the bytes, or a byte that does not go on with a character
abbrev pub character_bound : List ℕ → ℕ → Bool
character_bound bytes spot = cond (nat_lt spot (length bytes)) (not (between 0x80 0xBF (slice_index bytes spot))) (spot == length bytes)

-- a span lies in its text, at character bounds
abbrev pub span_lies : List ℕ → ℕ → ℕ → Bool
span_lies bytes start end = nat_le start end && (character_bound bytes start && character_bound bytes end)
