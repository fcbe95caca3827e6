use Rattle.kernel.proofs.Words.{grown_touches}
use Rattle.kernel.proofs.execute.fork.Goals as goal

pub shrink-requires-clause-untouched : goal.shrink-requires-clause-untouched
shrink-requires-clause-untouched c = rw c.in_ok-grow.ensures.ok (grown_touches c.args.s.now.contenders _)
