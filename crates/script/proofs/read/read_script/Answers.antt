use Rattle.std.proofs.Common.{arith, rules, ◌≤◌, ◌≡◌, length, eqb}
use Rattle.std.specs.List.{slice_split}
use Rattle.script.proofs.Reading.{length_pieces}
use Rattle.script.specs.declared.limits.TheConstants.{SCRIPT_LIMIT}
use Rattle.script.proofs.read.read_script.Goals as goal

pub script_from-requires : goal.script_from-requires
script_from-requires c =
    let same : c.new.result ≡ slice_split (λ b. eqb b 10) c.args.text.now = search rules in
    let small : length c.args.text.now ≤ SCRIPT_LIMIT = search rules in
    rw same (omega (arith, length_pieces 10 c.args.text.now))
