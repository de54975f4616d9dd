use Rattle.std.proofs.Common.{true, false, is_ok, rules, sym, ap, ◌∙◌}
use Rattle.markup.specs.State.{state}
use Rattle.plates.specs.Steps.{closes}
use Rattle.plates.specs.View.{view}
use Rattle.plates.proofs.Outcomes.{Kept, CutBack}
use Rattle.plates.proofs.Closes.{close_outcome, close_rest}
use Rattle.plates.proofs.plates.Plate.close.Goals as goal

-- not all fitted
pub returns-in_err-map_err : goal.returns-in_err-map_err
returns-in_err-map_err g c =
    let p = c.args.self.now in
    let others = c.in-Some.others.now in
    let x = c.in-Some.innermost.now in
    let k : CutBack (view g.S.Store p) closes (state g.S.Store c.call.new.self) =
    close_outcome false _ g.S.Store p others x _ c.call.new.self (sym c.deref.ensures.0 ∙ c.in-Some.ensures.cases.0)
    c.end_tags_size-owed.ensures.size (sym (ap is_ok c.in_err-map_err.was) ∙ c.map_err.ensures.variant)
    c.call.ensures.told c.call.ensures.done
    in
    record { told = search rules; done = k.done; kept = search rules }

-- all fitted
pub returns : goal.returns
returns g c =
    let p = c.args.self.now in
    let others = c.in-Some.others.now in
    let x = c.in-Some.innermost.now in
    let split = sym c.deref.ensures.0 ∙ c.in-Some.ensures.cases.0 in
    let k : Kept (view g.S.Store p) closes (state g.S.Store c.call.new.self) =
    close_outcome true _ g.S.Store p others x _ c.call.new.self split
    c.end_tags_size-owed.ensures.size (sym (ap is_ok c.in_ok-map_err.was) ∙ c.map_err.ensures.variant)
    c.call.ensures.told c.call.ensures.done
    in
    record { told = k.told; done = k.done _ (close_rest _ others _ x split c.pop.ensures.rest); kept = tt }
