use Rattle.std.proofs.Common.{rules}
use Rattle.transcript.proofs.Printing.{Prints-as, Prints-then}
use Rattle.transcript.proofs.operation.put_chown.Goals as goal

pub returns : goal.returns
returns g c = Prints-as (Prints-then _ _ c.put_path.ensures c.put_new_owner.ensures) (search rules)
