use Rattle.markup.specs.State.{state}
use Rattle.markup.proofs.Chains.{parts}
use Rattle.plates.proofs.Tags.{start_parts, start_whole}
use Rattle.plates.proofs.marks.Opening.write_start.Goals as goal

pub returns : goal.returns
returns g c =
    let o = c.args.self.now.options.now in
    let name = c.args.self.now.element in
    let id = c.args.self.now.id.now in
    let e = parts (state g.S.Store c.args.pen.now) (start_parts o name id) _ (start_whole o name id) in
    cc
