use Rattle.std.proofs.Common.{◌∙◌}
use Rattle.records.proofs.Uses.{forgotten_at}
use Rattle.records.proofs.index.leave_users.Goals as goal

pub returns-then-left-clause-users : goal.returns-then-left-clause-users
returns-then-left-clause-users c = λ u. forgotten_at c.leave_aspect-left.new.table c.remove.new.self c.args.touch.now.aspect (c.leave_aspect-left.ensures.nobody c.if-left.true) c.remove.ensures.updates.0 u ∙ c.leave_aspect-left.ensures.users u
