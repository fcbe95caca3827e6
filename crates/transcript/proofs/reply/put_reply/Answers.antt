use Rattle.std.proofs.Common.{rules}
use Rattle.transcript.proofs.Printing.{Prints-as}
use Rattle.transcript.proofs.reply.put_reply.Goals as goal

pub returns-in-Answer : goal.returns-in-Answer
returns-in-Answer g c = Prints-as c.put_answer.ensures (search rules)

pub returns-in-Errno : goal.returns-in-Errno
returns-in-Errno g c = Prints-as c.put.ensures (search rules)

pub returns-in-Begun : goal.returns-in-Begun
returns-in-Begun g c = Prints-as c.put_word.ensures (search rules)

pub returns-in-Committed : goal.returns-in-Committed
returns-in-Committed g c = Prints-as c.put_word-in-Committed.ensures (search rules)

pub returns-in-GivenUp : goal.returns-in-GivenUp
returns-in-GivenUp g c = Prints-as c.put_given_up.ensures (search rules)

pub returns-in-Aborted : goal.returns-in-Aborted
returns-in-Aborted g c = Prints-as c.put_aborted.ensures (search rules)

pub returns-in-Busy : goal.returns-in-Busy
returns-in-Busy g c = Prints-as c.put_busy.ensures (search rules)

pub returns-in-InTransaction : goal.returns-in-InTransaction
returns-in-InTransaction g c = Prints-as c.put_word-in-InTransaction.ensures (search rules)

pub returns-in-NotInTransaction : goal.returns-in-NotInTransaction
returns-in-NotInTransaction g c = Prints-as c.put_word-in-NotInTransaction.ensures (search rules)

pub returns-in-HistoryFull : goal.returns-in-HistoryFull
returns-in-HistoryFull g c = Prints-as c.put_word-in-HistoryFull.ensures (search rules)

pub returns-in-NoMemory : goal.returns-in-NoMemory
returns-in-NoMemory g c = Prints-as c.put_word-in-NoMemory.ensures (search rules)

pub returns-in-NoProcess : goal.returns-in-NoProcess
returns-in-NoProcess g c = Prints-as c.put_word-in-NoProcess.ensures (search rules)
