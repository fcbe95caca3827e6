use Rattle.std.proofs.Common.{◌≡◌, ◌<◌, ◌^◌, length, arith, rules, ◌∙◌}
use Rattle.model.specs.State.{file_of}
use Rattle.shadow.proofs.viewing.LookLemmas.{end_small}
use Rattle.shadow.proofs.view.ViewLook.read_file.Goals as goal

pub returns-clause-small : goal.returns-clause-small
returns-clause-small c =
    let low : c.args.offset < 2 ^ 32 = omega arith in
    let is : c.in_ok-small.field-0 ≡ length (file_of c.args.self.now.state c.args.file) = c.in_ok-small.ensures ∙ c.len.ensures in
    let fits : c.in_ok-small.field-0 < 2 ^ 32 = search rules in
    let few : length (file_of c.args.self.now.state c.args.file) < 2 ^ 32 = omega arith in
    end_small c.bytes.result (file_of c.args.self.now.state c.args.file) c.args.offset c.args.count low few c.bytes.ensures
