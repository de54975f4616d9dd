use Rattle.std.proofs.Common.{sym, ◌∙◌}
use Rattle.scripts.proofs.Numerals.{plus, no_text, text_is, text_parsed}
use Rattle.scripts.proofs.numbers.parsed.Goals as goal

pub returns-then-starts_with : goal.returns-then-starts_with
returns-then-starts_with c = λ n. plus c.args.word.now (sym c.starts_with.ensures.value ∙ c.if-starts_with.true) n.0

pub returns-in_err-ok : goal.returns-in_err-ok
returns-in_err-ok c =
    let none = c.in_err-ok.was in
    rw c.from_residual.ensures (λ n. no_text c.from_utf8.result _ _ c.args.word.now c.from_utf8.ensures.cases (rw c.ok.ensures.value at none) n.0)

pub returns : goal.returns
returns c =
    let some = c.in_ok-ok.was in
    let text = text_is (λ s. s.now) c.from_utf8.result _ _ _ c.args.word.now c.from_utf8.ensures.cases (rw c.ok.ensures.value at some) in
    rw c.ok-2.ensures.value (text_parsed c.parse.result c.args.word.now _ text (sym c.starts_with.ensures.value ∙ c.if-starts_with.false) c.parse.ensures.value.0)
