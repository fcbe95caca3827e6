use Rattle.std.proofs.Common.{rules}
use Rattle.transcript.proofs.Printing.{Prints-as}
use Rattle.transcript.proofs.rights.put_permissions.Goals as goal

pub returns : goal.returns
returns g c = Prints-as c.put_octal.ensures (search rules)
