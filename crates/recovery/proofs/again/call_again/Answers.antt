use Rattle.recovery.proofs.Coming.{is_told_by}
use Rattle.recovery.proofs.again.call_again.Goals as goal

pub returns-then-same-clause-told : goal.returns-then-same-clause-told
returns-then-same-clause-told g c =
    is_told_by (g.M.Machine.shown c.args.machine.now).log (g.M.Machine.shown c.make_call.new.machine).log c.args.pid c.args.call.now c.in_ok-reply.reply c.args.told.now c.is_told-same.result c.in_ok-reply.ensures.answered c.if-same.true c.is_told-same.ensures
