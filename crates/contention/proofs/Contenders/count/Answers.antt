use Rattle.std.proofs.Common.{arith}
use Rattle.contention.proofs.Standing.{within_ranks, ranked_there}
use Rattle.contention.proofs.Contenders.count.Goals as goal

pub count-requires : goal.count-requires
count-requires c = let l = within_ranks c.self.inside.ranks c.self.inside.records _ c.args.pid c.self.view_is c.requires in let e = c.self.invariant in omega arith

pub returns : goal.returns
returns c = rw (← c.self.view_is, ranked_there c.self.inside.ranks c.self.inside.records c.args.pid c.self.invariant) c.count.ensures
