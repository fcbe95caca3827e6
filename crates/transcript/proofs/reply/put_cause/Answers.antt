use Rattle.std.proofs.Common.{rules, codes}
use Rattle.transcript.proofs.Printing.{Prints-as, Prints-on, Prints-then}
use Rattle.transcript.proofs.reply.put_cause.Goals as goal

pub returns : goal.returns
returns g c = Prints-as (Prints-on _ (codes " by P") _ (Prints-then _ _ c.put_aspect.ensures (Prints-as c.put.ensures c.access_text.ensures)) c.put_number.ensures) (search rules)
