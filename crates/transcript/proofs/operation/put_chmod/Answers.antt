use Rattle.std.proofs.Common.{rules}
use Rattle.transcript.proofs.Printing.{Prints-as, Prints-then}
use Rattle.transcript.proofs.operation.put_chmod.Goals as goal

pub returns : goal.returns
returns g c = Prints-as (Prints-then _ _ (Prints-then _ _ c.put_path.ensures c.put_word.ensures) c.put_permissions.ensures) (search rules)
