use Rattle.kept.proofs.Going.{forget_on, stands_on}
use Rattle.kept.proofs.kept.Kept.forget.Goals as goal

pub returns-clause-stands : goal.returns-clause-stands
returns-clause-stands g c = λ kept s.
    let old = c.args.self.now in
    stands_on old.fault old.store old.machine.shown.log c.forget.new.self.shown.log kept (forget_on old.machine.shown c.forget.new.self.shown c.forget.result c.forget.ensures.yes c.forget.ensures.no) s
