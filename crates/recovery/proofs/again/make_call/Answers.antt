use Rattle.recovery.proofs.Coming.{answered_later}
use Rattle.recovery.proofs.again.make_call.Goals as goal

pub returns-in-HistoryFull-clause-answered : goal.returns-in-HistoryFull-clause-answered
returns-in-HistoryFull-clause-answered g c =
    answered_later (g.M.Machine.shown c.args.machine.now).log (g.M.Machine.shown c.make_once.new.machine).log (g.M.Machine.shown c.make_later.new.machine).log
    c.args.pid c.args.call.now c.make_later.result (c.in_ok-first.ensures.full c.in-HistoryFull.is) c.make_later.ensures.answered
