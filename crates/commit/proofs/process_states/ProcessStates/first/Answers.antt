use Rattle.commit.proofs.Counting.{none_within}
use Rattle.commit.proofs.process_states.ProcessStates.first.Goals as goal

pub invariant_of-result : goal.invariant_of-result
invariant_of-result c = none_within c.in_ok-all.all.items c.args.count c.in_ok-all.ensures.count c.in_ok-all.ensures.first
