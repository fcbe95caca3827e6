use Rattle.std.proofs.Common.{rules}
use Rattle.transcript.proofs.Printing.{Prints-as}
use Rattle.transcript.proofs.rights.put_id.Goals as goal

pub returns-in-Some : goal.returns-in-Some
returns-in-Some g c = Prints-as c.put_number.ensures (search rules)

pub returns-in-None : goal.returns-in-None
returns-in-None g c = Prints-as c.put_word.ensures (search rules)
