use Rattle.std.proofs.Common.{rules}
use Rattle.stream.proofs.Coming.{comes_done, comes_fault, refuses_line, refuses_memory}
use Rattle.stream.proofs.Forgotten.{grown_none}
use Rattle.stream.proofs.hearing.try_line.Goals as goal

pub returns-in-Ok-None-clause-comes : goal.returns-in-Ok-None-clause-comes
returns-in-Ok-None-clause-comes g c = (search rules, grown_none _ c.history-history.ensures.kept)

pub returns-in-Ok-Some-clause-comes : goal.returns-in-Ok-Some-clause-comes
returns-in-Ok-Some-clause-comes g c =
    comes_done c.do_line.result _ _ _ c.in-Ok-Some.spoken (search rules) c.do_line.ensures.heard c.do_line.ensures.done

pub returns-in-Ok-Some-clause-refused : goal.returns-in-Ok-Some-clause-refused
returns-in-Ok-Some-clause-refused g c =
    refuses_line c.do_line.result _ _ _ c.in-Ok-Some.spoken (search rules) c.do_line.ensures.unchanged c.do_line.ensures.refused

pub returns-in-Err-clause-comes : goal.returns-in-Err-clause-comes
returns-in-Err-clause-comes g c =
    comes_fault c.heard_fault.result _ _ c.in-Err.fault c.in-Err.ensures.fault c.heard_fault.ensures.heard c.heard_fault.ensures.no_memory (grown_none _ c.history-history.ensures.kept)

pub returns-in-Err-clause-refused : goal.returns-in-Err-clause-refused
returns-in-Err-clause-refused g c = refuses_memory c.heard_fault.result _ _ c.heard_fault.ensures.refused
