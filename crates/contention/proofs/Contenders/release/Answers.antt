use Rattle.std.proofs.Common.{arith}
use Rattle.contention.proofs.Standing.{within_ranks, release_becomes}
use Rattle.contention.proofs.Contenders.release.Goals as goal

pub set_age-requires : goal.set_age-requires
set_age-requires c = within_ranks c.self.inside.ranks c.self.inside.records _ c.args.pid c.self.view_is c.requires

pub release-requires : goal.release-requires
release-requires c = let l = within_ranks c.self.inside.ranks c.self.inside.records _ c.args.pid c.self.view_is c.requires in let e = c.self.invariant in omega arith

pub returns : goal.returns
returns c = rw (← c.self.view_is, c.set_age.ensures, c.release.ensures) (release_becomes c.self.inside.ranks c.self.inside.records c.args.pid c.self.invariant (within_ranks c.self.inside.ranks c.self.inside.records _ c.args.pid c.self.view_is c.requires))
