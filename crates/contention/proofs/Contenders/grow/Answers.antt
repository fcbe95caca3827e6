use Rattle.contention.proofs.Standing.{grown}
use Rattle.contention.proofs.Contenders.grow.Goals as goal

pub returns-clause-ok : goal.returns-clause-ok
returns-clause-ok c = rw (← c.self.view_is, c.in_ok-grow_both.ensures.ranks, c.in_ok-grow_both.ensures.records) (grown c.self.inside.ranks c.self.inside.records c.args.priority c.self.invariant)
