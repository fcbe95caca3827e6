use Rattle.kernel.proofs.Words.{subst, IsVerdict, moment}
use Rattle.kernel.proofs.execute.run.Goals as goal

pub refuse-requires-clause-lost : goal.refuse-requires-clause-lost
refuse-requires-clause-lost c = subst (IsVerdict (moment c.args.s.now.history) c.args.pid _) c.in-Lose.is c.in-Ok.ensures.verdict

pub take-requires-clause-wins : goal.take-requires-clause-wins
take-requires-clause-wins c = subst (IsVerdict (moment c.args.s.now.history) c.args.pid _) c.in-Go.is c.in-Ok.ensures.verdict
