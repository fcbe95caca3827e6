use Rattle.std.proofs.Common.{rules}
use Rattle.transcript.proofs.Printing.{Prints-as, Prints-then}
use Rattle.transcript.proofs.rights.put_new_owner.Goals as goal

pub returns : goal.returns
returns g c = Prints-as (Prints-then _ _ c.put_id.ensures c.put_id-2.ensures) (search rules)
