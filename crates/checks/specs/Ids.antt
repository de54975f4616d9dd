-- The rule for ids.
use Rattle.std.specs.Prelude.{ℕ, Bool, cond, ◌&&◌, ◌||◌, List, length, Ok, Err, ◌==◌, nat_le, nat_lt}
use Rattle.std.specs.List.{list_all}
use Rattle.drawing.specs.declared.names.AId.{AId}
use Rattle.drawing.specs.declared.faults.ValueFault.{ValueFault}
use Rattle.drawing.specs.declared.faults.ValueFault.TheVariants.{Id}
use Rattle.drawing.specs.declared.faults.IdFault.TheVariants.{Missing, TooLong, BadByte}
use Rattle.drawing.specs.declared.faults.AttributeFault.{AttributeFault}
use Rattle.drawing.specs.Faults.{in_attribute}
use Rattle.checks.specs.Verdicts.{Verdict, recast, found_in}

abbrev pub between : ℕ → ℕ → ℕ → Bool
between low high byte = nat_le low byte && nat_le byte high

-- A to Z, a to z, 0 to 9, and _ - . :
abbrev pub id_byte : ℕ → Bool
id_byte b = between 65 90 b || (between 97 122 b || (between 48 57 b || (b == 95 || (b == 45 || (b == 46 || b == 58)))))

abbrev pub id_bytes : List ℕ → Bool
id_bytes bytes = list_all id_byte bytes

-- at most 64 of them
unfoldable pub id_verdict : List ℕ → Verdict ValueFault
id_verdict bytes = cond (nat_lt 64 (length bytes)) (Err (Id TooLong)) (cond (id_bytes bytes) (Ok tt) (Err (Id BadByte)))

-- an id that is referred to
unfoldable pub reference_verdict : List ℕ → Verdict ValueFault
reference_verdict bytes = cond (length bytes == 0) (Err (Id Missing)) (id_verdict bytes)

-- in an attribute
unfoldable pub id_in : AId → List ℕ → Verdict AttributeFault
id_in attribute bytes = recast in_attribute (found_in attribute (id_verdict bytes))
