use Rattle.std.proofs.Common.{sym, arith}
use Rattle.digits.proofs.BareText.{bare_nought, bare_found, zero_grains}
use Rattle.digits.proofs.Searched.{Found}
use Rattle.digits.proofs.Shortness.{found_small, found_bound}
use Rattle.digits.proofs.showing.shortest.Goals as goal

pub returns-then-x : goal.returns-then-x
returns-then-x c = rw (c.spelled.ensures, c.is_sign_negative.ensures) (sym (bare_nought c.args.x (zero_grains c.args.x c.if-x.true)))

pub overflow_cast-units : goal.overflow_cast-units
overflow_cast-units c =
    let h = found_small record { parts = c.take_apart-parts.ensures; first = c.search_places-units.ensures } in
    omega arith

pub overflow_mul-units : goal.overflow_mul-units
overflow_mul-units c =
    let h = found_bound record { parts = c.take_apart-parts.ensures; first = c.search_places-units.ensures } in
    rw (c.pow.ensures, c.saturating_sub.ensures) (omega arith)

pub invariant_of-spelled-2 : goal.invariant_of-spelled-2
invariant_of-spelled-2 c =
    let h = found_bound record { parts = c.take_apart-parts.ensures; first = c.search_places-units.ensures } in
    let l = c.search_places-units.ensures.last in
    record { below = rw (c.pow.ensures, c.saturating_sub.ensures) h; short = omega arith }

pub returns : goal.returns
returns c =
    let f : Found c.args.x c.take_apart-parts.result.negative c.take_apart-parts.result.significand c.take_apart-parts.result.power c.search_places-units.result.0 c.search_places-units.result.1 =
    record { parts = c.take_apart-parts.ensures; first = c.search_places-units.ensures } in
    rw (c.spelled-2.ensures, c.pow.ensures, c.saturating_sub.ensures, c.saturating_sub-2.ensures) (sym (bare_found f))
