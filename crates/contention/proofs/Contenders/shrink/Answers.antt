use Rattle.std.proofs.Common.{◌-◌, length, arith}
use Rattle.contention.proofs.Standing.{ranked_take, ranked_count, length_within, last_touches}
use Rattle.contention.proofs.Contenders.shrink.Goals as goal

pub pop-requires : goal.pop-requires
pop-requires c = length_within c.self.inside.ranks c.self.inside.records _ c.self.view_is c.requires.some

pub shrink-requires-clause-some : goal.shrink-requires-clause-some
shrink-requires-clause-some c = let l = length_within c.self.inside.ranks c.self.inside.records _ c.self.view_is c.requires.some in let e = c.self.invariant in omega arith

pub shrink-requires-clause-untouched : goal.shrink-requires-clause-untouched
shrink-requires-clause-untouched c = last_touches c.self.inside.ranks c.self.inside.records _ c.self.invariant c.self.view_is c.requires.untouched

pub returns : goal.returns
returns c = rw (← c.self.view_is, c.pop.ensures, c.shrink.ensures, c.self.invariant, ranked_count) (ranked_take c.self.inside.ranks c.self.inside.records (length c.self.inside.ranks - 1) c.self.invariant)
