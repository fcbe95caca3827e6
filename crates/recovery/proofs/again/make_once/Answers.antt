use Rattle.std.proofs.Common.{subst}
use Rattle.machine.specs.Steps.{IsStep}
use Rattle.model.specs.Calls.{Call}
use Rattle.model.specs.Entries.{Do}
use Rattle.recovery.proofs.Coming.{answered, stays_full}
use Rattle.recovery.proofs.again.make_once.Goals as goal

pub returns-clause-answered : goal.returns-clause-answered
returns-clause-answered g c =
    let old = g.M.Machine.shown c.args.machine.now in
    let new = g.M.Machine.shown c.step.new.self in
    answered old new c.args.pid c.args.call.now c.step.result c.requires.changing c.step.ensures.kept
    (subst (λ (k : Call). IsStep old new c.args.pid (Do k) c.step.result) c.in_ok-call.ensures c.step.ensures.step)

pub returns-clause-full : goal.returns-clause-full
returns-clause-full g c =
    stays_full (g.M.Machine.shown c.args.machine.now) (g.M.Machine.shown c.step.new.self) c.args.pid (Do c.in_ok-call.call) c.step.result c.step.ensures.step
