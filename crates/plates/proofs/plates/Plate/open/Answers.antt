use Rattle.std.proofs.Common.{[], ◌∷◌, ◌++◌, reverse, length, true, false, is_ok, rules, sym, ap, ◌∙◌}
use Rattle.std.proofs.lemmas.List.{reverse-append}
use Rattle.markup.specs.State.{state}
use Rattle.plates.specs.Closing.{finish, start_tag, end_tags}
use Rattle.plates.specs.Steps.{opens}
use Rattle.plates.specs.View.{view}
use Rattle.plates.proofs.Outcomes.{Kept, CutBack}
use Rattle.plates.proofs.Opens.{open_outcome}
use Rattle.plates.proofs.plates.Plate.open.Goals as goal

-- not all fitted
pub returns-in_err-map_err : goal.returns-in_err-map_err
returns-in_err-map_err g c =
    let p = c.args.self.now in
    let o = c.args.options.now in
    let name = c.args.element in
    let id = c.args.id.now in
    let bytes = finish p.stage ++ start_tag o name id in
    let k : CutBack (view g.S.Store p) (opens o name id) (state g.S.Store c.call.new.self) =
    open_outcome false _ g.S.Store p o name id _ c.call.new.self (sym c.if-not-are_settings.ensures) (sym c.if-not-may_open.ensures) (sym c.in_ok-id_at.ensures)
    (c.end_tags_size-owed.ensures.size ∙ ap (λ z. length (end_tags (reverse z))) c.deref.ensures.0) (sym (ap is_ok c.in_err-map_err.was) ∙ c.map_err.ensures.variant)
    c.call.ensures.told c.call.ensures.done
    in
    record { told = search rules; done = k.done; kept = search rules }

-- all fitted
pub returns : goal.returns
returns g c =
    let p = c.args.self.now in
    let o = c.args.options.now in
    let name = c.args.element in
    let id = c.args.id.now in
    let bytes = finish p.stage ++ start_tag o name id in
    let k : Kept (view g.S.Store p) (opens o name id) (state g.S.Store c.call.new.self) =
    open_outcome true _ g.S.Store p o name id _ c.call.new.self (sym c.if-not-are_settings.ensures) (sym c.if-not-may_open.ensures) (sym c.in_ok-id_at.ensures)
    (c.end_tags_size-owed.ensures.size ∙ ap (λ z. length (end_tags (reverse z))) c.deref.ensures.0) (sym (ap is_ok c.in_ok-map_err.was) ∙ c.map_err.ensures.variant)
    c.call.ensures.told c.call.ensures.done
    in
    record { told = k.told; done = k.done _ (ap reverse c.push.ensures.items ∙ reverse-append p.names.items (name ∷ [])); kept = tt }
