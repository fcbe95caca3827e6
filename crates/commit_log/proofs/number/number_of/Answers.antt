use Rattle.std.proofs.Common.{rules}
use Rattle.std.proofs.lemmas.Nat.{le_bytes_8}
use Rattle.commit_log.specs.Frame.{number}
use Rattle.commit_log.proofs.number.number_of.Goals as goal

pub returns : goal.returns
unfolding number
returns c =
    le_bytes_8 c.args.bytes c.from_le_bytes.result (search rules) (search rules) c.from_le_bytes.ensures
