use Rattle.kernel.proofs.Words.{counted_touches, moment}
use Rattle.contention.specs.declared.Verdict.TheVariants.{Go}
use Rattle.kernel.proofs.execute.judged_alone.Goals as goal

-- no other process has touched anything, so whatever is touched the call dooms nobody
pub returns-clause-verdict : goal.returns-clause-verdict
returns-clause-verdict c = c.requires.alone (counted_touches (moment c.args.s.now.history) c.args.pid c.args.call.now) (Go c.new.result) c.new.ensures.items
