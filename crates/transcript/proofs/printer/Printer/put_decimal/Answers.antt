use Rattle.std.proofs.Common.{sym}
use Rattle.std.proofs.lemmas.Fmt.{decimal_digit}
use Rattle.transcript.proofs.Printing.{Prints-as}
use Rattle.transcript.proofs.printer.Printer.put_decimal.Goals as goal

pub returns-then-n-lt10 : goal.returns-then-n-lt10
returns-then-n-lt10 g c = Prints-as c.put_word.ensures (sym (decimal_digit c.args.n c.if-n-lt10.true))
