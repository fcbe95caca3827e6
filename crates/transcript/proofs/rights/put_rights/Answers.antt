use Rattle.std.proofs.Common.{rules}
use Rattle.transcript.proofs.Printing.{Prints-as, Prints-then}
use Rattle.transcript.proofs.rights.put_rights.Goals as goal

pub returns : goal.returns
returns g c = Prints-as (Prints-then _ _ c.put_mode.ensures c.put_owner.ensures) (search rules)
