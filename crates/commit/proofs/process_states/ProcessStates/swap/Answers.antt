use Rattle.std.proofs.Common.{arith}
use Rattle.commit.specs.ProcessStates.{slot_view}
use Rattle.commit.proofs.Counting.{count_set, one_of_count}
use Rattle.commit.proofs.process_states.ProcessStates.swap.Goals as goal

pub overflow_sub-self : goal.overflow_sub-self
overflow_sub-self c = let one = one_of_count c.self.inside.all.items c.args.pid (slot_view c.swap_in-before.result) c.swap_in-before.ensures.taken in omega (arith, one, c.self.invariant, c.weight.ensures)

pub invariant_of-self : goal.invariant_of-self
invariant_of-self c =
    let count = count_set c.self.inside.all.items c.swap_in-before.new.all.items c.args.pid (slot_view c.args.slot) (slot_view c.swap_in-before.result) c.swap_in-before.ensures.set c.swap_in-before.ensures.taken in
    let one = one_of_count c.self.inside.all.items c.args.pid (slot_view c.swap_in-before.result) c.swap_in-before.ensures.taken in
    omega (arith, count, one, c.self.invariant, c.weight.ensures, c.weight-comes.ensures)
