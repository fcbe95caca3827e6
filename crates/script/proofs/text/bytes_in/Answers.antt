use Rattle.std.proofs.Common.{◌≡◌, ◌∙◌, [], Some, ap, sym, true, rules}
use Rattle.std.specs.List.{list_all}
use Rattle.script.specs.Texts.{is_plain}
use Rattle.script.proofs.Escapes.{all_plain}
use Rattle.script.proofs.text.bytes_in.Goals as goal

pub returns-in-Ok : goal.returns-in-Ok
returns-in-Ok c =
    let plain : list_all is_plain c.args.text.now ≡ true = search rules in
    let same : c.in-Ok.bytes ≡ c.args.text.now = search rules in
    all_plain [] c.args.text.now plain ∙ ap Some (sym same)
