use Rattle.turnstile.proofs.Full.{kept, serial, step}
use Rattle.turnstile.proofs.tests.FullMachine.step.Goals as goal

pub returns-clause-kept : goal.returns-clause-kept
returns-clause-kept c = kept _ _ c.self.view_is c.self.invariant.0 c.self.invariant.2

pub returns-clause-serial : goal.returns-clause-serial
returns-clause-serial c = serial _ _ c.self.view_is c.self.invariant.0 c.self.invariant.2

pub returns-clause-step : goal.returns-clause-step
returns-clause-step c = step _ _ c.args._pid c.args.op c.self.view_is c.self.invariant.0 c.self.invariant.1 c.self.invariant.2
