-- The theorem on whole numbers: the text says the number, and no other plain text without minus or point does.
use Rattle.std.proofs.Common.{◌≡◌, ℕ, ◌^◌, ◌<◌, Bool, false, List, decimal, sym, ap, ◌∙◌, subst, append-nil, div-one, arith}
use Rattle.digits.specs.Decimals.{units, places, spelling}
use Rattle.digits.specs.Theorems.{SaysWhole, WholeStands}
use Rattle.digits.proofs.Texts.{spelling_plain, spelling_says, plain_spelling, whole_lowest}

spelling_whole : (n : ℕ) → spelling false n 0 ≡ decimal n
spelling_whole n = grind (arith, append-nil, div-one)

pub whole_stands : WholeStands
whole_stands n h =
    let s = spelling_says false n 0 h (whole_lowest n) in (
      subst (λ (bs : List ℕ). SaysWhole n bs) (spelling_whole n)
          record { plain = spelling_plain false n 0 h (whole_lowest n); sign_is = s.sign_is; units_are = s.units_are; places_are = s.places_are },
      λ bs g.
          plain_spelling bs g.plain (subst (λ (z : ℕ). z < 2 ^ 64) (sym g.units_are) h)
          ∙ ap (λ (z : Bool). spelling z (units bs) (places bs)) g.sign_is
          ∙ ap (λ (z : ℕ). spelling false z (places bs)) g.units_are
          ∙ ap (λ (z : ℕ). spelling false n z) g.places_are
          ∙ spelling_whole n,
    )
