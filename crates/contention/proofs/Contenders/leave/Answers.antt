use Rattle.std.proofs.Common.{◌≡◌, ◌∙◌, ap, arith}
use Rattle.contention.specs.Ranks.{idle_rank, no_rank}
use Rattle.contention.proofs.Standing.{within_ranks, leave_becomes, level_is}
use Rattle.contention.proofs.Contenders.leave.Goals as goal

pub set-requires : goal.set-requires
set-requires c = within_ranks c.self.inside.ranks c.self.inside.records _ c.args.pid c.self.view_is c.requires

pub release-requires : goal.release-requires
release-requires c = let l = within_ranks c.self.inside.ranks c.self.inside.records _ c.args.pid c.self.view_is c.requires in let e = c.self.invariant in omega arith

pub returns : goal.returns
returns c =
    let e : c.idle.result ≡ no_rank = c.idle.ensures ∙ ap idle_rank (level_is c.new.result c.unwrap.result 0 c.unwrap.ensures c.new.ensures.value) in
    rw (← c.self.view_is, c.set.ensures, c.release.ensures, e) (leave_becomes c.self.inside.ranks c.self.inside.records c.args.pid c.self.invariant (within_ranks c.self.inside.ranks c.self.inside.records _ c.args.pid c.self.view_is c.requires))
