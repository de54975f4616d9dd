use Rattle.std.proofs.Common.{◌≡◌, ℕ, Bool, true, false, cond, List, Result, Ok, Err, sym, ◌∙◌, arith}
use Rattle.std.specs.Result.{is_err}
use Rattle.std.proofs.lemmas.Bool.Decides.{nat_tests}
use Rattle.stores.specs.Meaning.{Put}
use Rattle.markup.specs.Pens.{PenState, pen, step}
use Rattle.markup.specs.State.{state}
use Rattle.markup.proofs.pens.Pen.byte.Goals as goal

-- one byte, by what the store answered
put_step : {Refusal : Type 0} (s : PenState) (held : List ℕ) (capacity b : ℕ) (answer : Result (Unit {0}) Refusal) (refused : Bool) →
    capacity ≡ s.capacity → refused ≡ is_err answer → Put s.held s.capacity b held answer → pen held capacity (cond refused true s.lost) ≡ step s b
unfolding step
put_step s held capacity b (Ok x) refused c e p = grind (arith, nat_tests)
put_step s held capacity b (Err x) refused c e p = grind (arith, nat_tests)

pub returns-then-is_err : goal.returns-then-is_err
returns-then-is_err g c =
    put_step (state g.S.Store c.args.self.now) _ _ c.args.byte c.put.result true c.put.ensures.sized (sym c.if-is_err.true ∙ c.is_err.ensures.value) c.put.ensures.cases

pub returns-else-is_err : goal.returns-else-is_err
returns-else-is_err g c =
    put_step (state g.S.Store c.args.self.now) _ _ c.args.byte c.put.result false c.put.ensures.sized (sym c.if-is_err.false ∙ c.is_err.ensures.value) c.put.ensures.cases
