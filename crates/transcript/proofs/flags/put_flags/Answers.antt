use Rattle.transcript.proofs.Names.{Prints-listed, Prints-listed_none}
use Rattle.transcript.proofs.flags.put_flags.Goals as goal

pub returns-then-not-put_names : goal.returns-then-not-put_names
returns-then-not-put_names g c = Prints-listed_none _ _ c.put_names.ensures c.if-not-put_names.true c.put_word.ensures

pub returns-else-not-put_names : goal.returns-else-not-put_names
returns-else-not-put_names g c = Prints-listed _ _ c.put_names.ensures c.if-not-put_names.false
