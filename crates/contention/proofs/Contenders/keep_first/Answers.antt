use Rattle.std.proofs.Common.{arith}
use Rattle.contention.proofs.Standing.{within_ranks, keep_becomes}
use Rattle.contention.proofs.Contenders.keep_first.Goals as goal

pub keep_first-requires : goal.keep_first-requires
keep_first-requires c = let l = within_ranks c.self.inside.ranks c.self.inside.records _ c.args.pid c.self.view_is c.requires in let e = c.self.invariant in omega arith

pub returns : goal.returns
returns c = rw (← c.self.view_is, c.keep_first.ensures) (keep_becomes c.self.inside.ranks c.self.inside.records c.args.pid c.args.count c.self.invariant (within_ranks c.self.inside.ranks c.self.inside.records _ c.args.pid c.self.view_is c.requires))
