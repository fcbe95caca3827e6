use Rattle.std.proofs.Common.{rules, tests}
use Rattle.transcript.proofs.Printing.{Prints-as}
use Rattle.transcript.proofs.rights.put_octal.Goals as goal

pub returns-then-n-lt8 : goal.returns-then-n-lt8
returns-then-n-lt8 g c = Prints-as c.put_word.ensures (search (tests, rules))

pub returns-then-n-lt64 : goal.returns-then-n-lt64
returns-then-n-lt64 g c = Prints-as c.put_word-then-n-lt64.ensures (search (tests, rules))

pub returns-then-n-lt512 : goal.returns-then-n-lt512
returns-then-n-lt512 g c = Prints-as c.put_word-then-n-lt512.ensures (search (tests, rules))

pub returns-else-n-lt512 : goal.returns-else-n-lt512
returns-else-n-lt512 g c = Prints-as c.put_word-else-n-lt512.ensures (search (tests, rules))
