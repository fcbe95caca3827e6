use Rattle.stream.proofs.Coming.{no_write}
use Rattle.stream.proofs.Parting.{answered_err, answered_ok}
use Rattle.stream.proofs.state.Stream.answer.Goals as goal

pub returns-in-Ok-clause-ok : goal.returns-in-Ok-clause-ok
returns-in-Ok-clause-ok g c = answered_ok _ _ c.args.part.now _ c.write_part.new.self _ _ _ c.settle_all.result c.in-Ok.ensures.ok c.settle_all.ensures.ok

pub returns-in-Ok-clause-fault : goal.returns-in-Ok-clause-fault
returns-in-Ok-clause-fault g c =
    answered_err _ _ c.args.part.now _ c.write_part.new.self _ _ _ c.settle_all.result c.in-Ok.ensures.ok c.settle_all.ensures.of_line c.settle_all.ensures.err

pub returns-in-Ok-clause-write : goal.returns-in-Ok-clause-write
returns-in-Ok-clause-write g c = λ e. absurd (no_write c.settle_all.result c.settle_all.ensures.of_line e)

pub returns-in-Ok-clause-no_failure : goal.returns-in-Ok-clause-no_failure
returns-in-Ok-clause-no_failure g c = λ _. c.in-Ok.ensures.no_failure (λ e. cc e)
