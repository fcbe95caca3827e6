use Rattle.std.proofs.Common.{rules}
use Rattle.transcript.proofs.Printing.{Prints-as}
use Rattle.transcript.proofs.reply.put_why.Goals as goal

pub returns-in-Clash : goal.returns-in-Clash
returns-in-Clash g c = Prints-as c.put_cause.ensures (search rules)

pub returns-in-Unsupported : goal.returns-in-Unsupported
returns-in-Unsupported g c = Prints-as c.put_word.ensures (search rules)
