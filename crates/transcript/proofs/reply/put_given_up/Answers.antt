use Rattle.std.proofs.Common.{rules}
use Rattle.transcript.proofs.Printing.{Prints-as, Prints-then}
use Rattle.transcript.proofs.reply.put_given_up.Goals as goal

pub returns : goal.returns
returns g c = Prints-as (Prints-then _ _ c.put_word.ensures (Prints-as c.put.ensures c.restarted_text.ensures)) (search rules)
