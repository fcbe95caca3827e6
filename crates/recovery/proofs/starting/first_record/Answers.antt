use Rattle.recovery.proofs.Going.{is_first}
use Rattle.recovery.proofs.starting.first_record.Goals as goal

pub returns-in-Some-clause-first : goal.returns-in-Some-clause-first
returns-in-Some-clause-first g c = is_first g.D.Disk c.args.reader.now c.next.new.self c.in_ok-found.found _ c.in-Some.is c.in_ok-found.ensures.reads
