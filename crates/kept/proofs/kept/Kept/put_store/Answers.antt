use Rattle.kept.proofs.Going.{held_stands}
use Rattle.kept.proofs.kept.Kept.put_store.Goals as goal

pub returns-clause-stands : goal.returns-clause-stands
returns-clause-stands g c = λ kept appended holds. held_stands c.args.store c.args.self.now.machine.shown.log kept appended holds
