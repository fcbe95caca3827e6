use Rattle.std.proofs.Common.{rules}
use Rattle.transcript.proofs.Printing.{Prints-as, Prints-then}
use Rattle.transcript.proofs.operation.put_fallocate.Goals as goal

pub returns : goal.returns
returns g c = Prints-as (Prints-then _ _ (Prints-then _ _ (Prints-then _ _ (Prints-then _ _ (Prints-then _ _ (Prints-then _ _ c.put_number.ensures c.put_word.ensures) c.put_signed.ensures) c.put_word-2.ensures) c.put_signed-2.ensures) c.put_word-3.ensures) (Prints-as c.put.ensures c.space_text.ensures)) (search rules)
