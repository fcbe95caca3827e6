use Rattle.std.proofs.Common.{arith}
use Rattle.std.proofs.lemmas.List.{get_or_read}
use Rattle.contention.proofs.Standing.{made_more, ranked_count}
use Rattle.contention.proofs.Contenders.new.Goals as goal

pub loop-priority-preserved : goal.loop-priority-preserved
loop-priority-preserved c = rw (c.in_ok-grow_both-2.ensures.ranks, c.in_ok-grow_both-2.ensures.records) (made_more c.loop-priority.ranks c.loop-priority.records c.args.priorities.now c.loop-priority.priority-index c.priority-item.result c.loop-priority.invariant (get_or_read c.args.priorities.now c.loop-priority.priority-index c.priority-item.result c.loop-priority-test.true c.priority-item.is 0))

pub returns-clause-count : goal.returns-clause-count
returns-clause-count c = let h = ranked_count c.loop-priority.ranks c.loop-priority.records in let m = c.loop-priority.invariant.count in omega arith
