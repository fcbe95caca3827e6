use Rattle.recovery.proofs.Coming.{is_change, tells_one}
use Rattle.recovery.proofs.again.entry_again.Goals as goal

pub returns-clause-tells : goal.returns-clause-tells
returns-clause-tells g c =
    tells_one c.args.entry.now c.in-Call.call c.in-Answer.told c.in-Call.is c.in-Answer.is (g.M.Machine.shown c.args.machine.now).log (g.M.Machine.shown c.call_again.new.machine).log c.in_ok-call_again.ensures.told

pub returns-clause-is : goal.returns-clause-is
returns-clause-is g c = is_change c.args.entry.now c.in-Call.call c.in-Answer.told c.in-Call.is c.in-Answer.is c.in_ok-call_again.ensures.changing
