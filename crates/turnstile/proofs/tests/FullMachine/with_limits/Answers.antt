use Rattle.std.proofs.Common.{sum, ap}
use Rattle.turnstile.proofs.Full.{holds}
use Rattle.turnstile.proofs.tests.FullMachine.with_limits.Goals as goal

pub returns-clause-kept : goal.returns-clause-kept
returns-clause-kept c = holds c.in_ok-history.history c.in_ok-history.ensures.empty (ap sum c.in_ok-history.ensures.whole)
