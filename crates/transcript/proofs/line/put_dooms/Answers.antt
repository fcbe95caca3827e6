use Rattle.std.proofs.Common.{rules}
use Rattle.transcript.proofs.Printing.{Prints-as, Prints-then}
use Rattle.transcript.proofs.line.put_dooms.Goals as goal

pub returns-in-Some : goal.returns-in-Some
returns-in-Some g c = Prints-as (Prints-then _ _ c.put_number.ensures c.put_pids.ensures) (search rules)
