use Rattle.std.proofs.Common.{rules}
use Rattle.transcript.proofs.Printing.{Prints-as, Prints-then}
use Rattle.transcript.proofs.flags.put_name.Goals as goal

pub returns-clause-text : goal.returns-clause-text
returns-clause-text g c = Prints-as (Prints-then _ _ c.put_word.ensures c.put-2.ensures) (search rules)
