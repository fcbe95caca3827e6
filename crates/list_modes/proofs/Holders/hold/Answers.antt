use Rattle.list_modes.proofs.Leaving.{held_again}
use Rattle.list_modes.proofs.Holders.hold.Goals as goal

pub returns-then-has-clause-ok : goal.returns-then-has-clause-ok
returns-then-has-clause-ok c = held_again c.args.self.now c.args.pid c.args.dir _ (rw c.held-before.ensures at (c.has.ensures c.if-has.true))
