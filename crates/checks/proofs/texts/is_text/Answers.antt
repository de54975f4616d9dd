use Rattle.std.proofs.Common.{◌≡◌, rules}
use Rattle.std.proofs.lemmas.Bool.Decides.{Decides-at}
use Rattle.checks.specs.Texts.{text_stands}
use Rattle.checks.proofs.Scans.{decides_text, stands_of_utf8, stands_of_none}
use Rattle.checks.proofs.texts.is_text.Goals as goal

pub returns : goal.returns
returns c =
    let v : c.is_ok_and.result ≡ text_stands c.args.bytes.now = search (rules, stands_of_utf8, stands_of_none) in
    record { value = v; means = Decides-at _ _ v (decides_text _) }
