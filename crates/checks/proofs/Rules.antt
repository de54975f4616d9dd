-- Rules by their numbers.
use Rattle.std.proofs.Common.{◌≡◌, ◌==◌, refl}
use denote.Enum.Bare.{sameb}
use Rattle.checks.specs.declared.entries.Rule.{Rule}
use Rattle.checks.specs.declared.entries.Rule.TheVariants.{Place, Id, Empty, Number, Text, Family}
use Rattle.checks.specs.contracts.entries.Rule.{the_type}
use Rattle.checks.specs.Entries.{rule_number}

-- two rules are the same where their numbers are
pub same_rule : (a b : Rule) → sameb the_type a b ≡ (rule_number a == rule_number b)
same_rule Place b = elim b as (λ b. sameb the_type Place b ≡ (3 == rule_number b)) [ Place ↦ refl | Id ↦ refl | Empty ↦ refl | Number ↦ refl | Text ↦ refl | Family ↦ refl ]
same_rule Id b = elim b as (λ b. sameb the_type Id b ≡ (4 == rule_number b)) [ Place ↦ refl | Id ↦ refl | Empty ↦ refl | Number ↦ refl | Text ↦ refl | Family ↦ refl ]
same_rule Empty b = elim b as (λ b. sameb the_type Empty b ≡ (5 == rule_number b)) [ Place ↦ refl | Id ↦ refl | Empty ↦ refl | Number ↦ refl | Text ↦ refl | Family ↦ refl ]
same_rule Number b = elim b as (λ b. sameb the_type Number b ≡ (6 == rule_number b)) [ Place ↦ refl | Id ↦ refl | Empty ↦ refl | Number ↦ refl | Text ↦ refl | Family ↦ refl ]
same_rule Text b = elim b as (λ b. sameb the_type Text b ≡ (7 == rule_number b)) [ Place ↦ refl | Id ↦ refl | Empty ↦ refl | Number ↦ refl | Text ↦ refl | Family ↦ refl ]
same_rule Family b = elim b as (λ b. sameb the_type Family b ≡ (8 == rule_number b)) [ Place ↦ refl | Id ↦ refl | Empty ↦ refl | Number ↦ refl | Text ↦ refl | Family ↦ refl ]
