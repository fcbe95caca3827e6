use Rattle.std.proofs.Common.{rules}
use Rattle.transcript.proofs.Printing.{Prints-as}
use Rattle.transcript.proofs.reply.put_answer.Goals as goal

pub returns-in-Bytes : goal.returns-in-Bytes
returns-in-Bytes g c = Prints-as c.put_counted.ensures (search rules)

pub returns-in-Pair : goal.returns-in-Pair
returns-in-Pair g c = Prints-as c.put_pair.ensures (search rules)

pub returns-in-Child : goal.returns-in-Child
returns-in-Child g c = Prints-as c.put_number.ensures (search rules)

pub returns-in-Done : goal.returns-in-Done
returns-in-Done g c = Prints-as c.put_word.ensures (search rules)

pub returns-in-Fd : goal.returns-in-Fd
returns-in-Fd g c = Prints-as c.put_decimal.ensures (search rules)

pub returns-in-Count : goal.returns-in-Count
returns-in-Count g c = Prints-as c.put_decimal-in-Count.ensures (search rules)

pub returns-in-Place : goal.returns-in-Place
returns-in-Place g c = Prints-as c.put_decimal-in-Place.ensures (search rules)

pub returns-in-Stat : goal.returns-in-Stat
returns-in-Stat g c = Prints-as c.put_stat.ensures (search rules)

pub returns-in-Names : goal.returns-in-Names
returns-in-Names g c = Prints-as c.put_names.ensures (search rules)
