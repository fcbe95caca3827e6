use Rattle.std.proofs.Common.{sym, ◌∙◌}
use Rattle.course.proofs.Runs.{closed, not_closed}
use Rattle.course.proofs.files.close_for.Goals as goal

pub returns-then-is_abort-clause-ran : goal.returns-then-is_abort-clause-ran
returns-then-is_abort-clause-ran g c = not_closed c.args.hand.now.pid c.args.fd c.args.fault (sym c.is_abort.ensures ∙ c.if-is_abort.true)

pub returns-clause-ran : goal.returns-clause-ran
returns-clause-ran g c = closed c.args.hand.now.pid c.args.fd c.args.fault (sym c.is_abort.ensures ∙ c.if-is_abort.false) c.close_by.ensures.ran
