use Rattle.recovery.proofs.Coming.{after_forgetting}
use Rattle.recovery.proofs.again.make_place.Goals as goal

pub returns-clause-stays : goal.returns-clause-stays
returns-clause-stays g c =
    after_forgetting (g.M.Machine.shown c.args.machine.now) (g.M.Machine.shown c.forget.new.self) c.forget.result c.forget.ensures.yes c.forget.ensures.no
