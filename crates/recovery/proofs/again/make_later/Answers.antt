use Rattle.recovery.proofs.Coming.{answered_later}
use Rattle.recovery.proofs.again.make_later.Goals as goal

pub returns-clause-answered : goal.returns-clause-answered
returns-clause-answered g c =
    answered_later (g.M.Machine.shown c.args.machine.now).log (g.M.Machine.shown c.make_place.new.machine).log (g.M.Machine.shown c.make_once.new.machine).log
    c.args.pid c.args.call.now c.make_once.result c.make_place.ensures.stays c.make_once.ensures.answered
