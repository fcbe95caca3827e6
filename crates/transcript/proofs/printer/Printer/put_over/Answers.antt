use Rattle.std.proofs.Common.{[]}
use Rattle.transcript.proofs.Printing.{Prints-then}
use Rattle.transcript.proofs.printer.Printer.put_over.Goals as goal

pub returns-else-has_room : goal.returns-else-has_room
returns-else-has_room g c = Prints-then [] c.args.text.now c.flush.ensures.prints c.write.ensures
