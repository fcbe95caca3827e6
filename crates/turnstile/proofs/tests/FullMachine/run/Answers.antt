use Rattle.turnstile.proofs.Full.{kept, serial}
use Rattle.turnstile.proofs.tests.FullMachine.run.Goals as goal

pub returns-clause-kept : goal.returns-clause-kept
returns-clause-kept c = kept _ _ c.self.view_is c.self.invariant.0 c.self.invariant.2

pub returns-clause-serial : goal.returns-clause-serial
returns-clause-serial c = serial _ _ c.self.view_is c.self.invariant.0 c.self.invariant.2
