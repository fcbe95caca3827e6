use Rattle.contention.proofs.Standing.{within_ranks, begin_becomes}
use Rattle.contention.proofs.Contenders.begin.Goals as goal

pub set_age-requires : goal.set_age-requires
set_age-requires c = within_ranks c.self.inside.ranks c.self.inside.records _ c.args.pid c.self.view_is c.requires

pub returns : goal.returns
returns c = rw (← c.self.view_is, c.set_age.ensures) (begin_becomes c.self.inside.ranks c.self.inside.records c.args.pid _ c.self.invariant (within_ranks c.self.inside.ranks c.self.inside.records _ c.args.pid c.self.view_is c.requires))
