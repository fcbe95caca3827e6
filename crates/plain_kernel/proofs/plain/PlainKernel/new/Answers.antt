use Rattle.plain_kernel.proofs.Holding.{none_hold}
use Rattle.plain_kernel.proofs.Starting.{started}
use Rattle.plain_kernel.proofs.plain.PlainKernel.new.Goals as goal

pub invariant_of-result : goal.invariant_of-result
invariant_of-result c =
    (c.requires, none_hold c.new.result c.args.priorities.now c.in_ok-processes.processes c.new-in-Ok.result c.in_ok-processes.ensures c.new-in-Ok.ensures)

pub returns-in-Ok : goal.returns-in-Ok
returns-in-Ok c =
    started c.args.root _ (record { priorities = c.args.priorities.now; bounds = c.args.bounds }) _ _ _ _ c.in-Ok.ensures c.new-rights.ensures c.new.ensures c.in_ok-processes.ensures c.in_ok-made.ensures
