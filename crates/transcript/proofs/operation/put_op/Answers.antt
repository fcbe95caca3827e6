use Rattle.std.proofs.Common.{rules}
use Rattle.transcript.proofs.Printing.{Prints-as}
use Rattle.transcript.proofs.operation.put_op.Goals as goal

pub returns-in-Begin : goal.returns-in-Begin
returns-in-Begin g c = Prints-as c.put_begin.ensures (search rules)

pub returns-in-Call : goal.returns-in-Call
returns-in-Call g c = Prints-as c.put_call.ensures (search rules)

pub returns-in-End : goal.returns-in-End
returns-in-End g c = Prints-as c.put_word.ensures (search rules)
