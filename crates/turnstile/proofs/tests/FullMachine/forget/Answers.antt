use Rattle.turnstile.proofs.Full.{forgot_none, holds}
use Rattle.turnstile.proofs.tests.FullMachine.forget.Goals as goal

pub invariant_of-self : goal.invariant_of-self
invariant_of-self c = forgot_none c.self.inside.history _ c.forget.result c.self.invariant.0 c.self.invariant.1 c.self.invariant.2 c.forget.ensures.yes c.forget.ensures.no

pub returns-clause-kept : goal.returns-clause-kept
returns-clause-kept c = let is = invariant_of-self c in holds _ is.0 is.2
