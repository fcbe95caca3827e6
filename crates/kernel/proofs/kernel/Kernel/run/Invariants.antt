use Rattle.kernel.proofs.Words.{◌≡◌, ◌≤◌, ◌+◌, ◌++◌, List, length, vec_capacity, into_iter_items, Reply, Shown, Kept, Steps}
use Rattle.kernel.proofs.kernel.Kernel.run.Given as goal

-- whatever steps the other operations are, with those done they are steps of all
abbrev pub invariant-loop-pid : goal.invariant-loop-pid
invariant-loop-pid l = record {
  goes_on : (rest : List Reply) (last : Shown) → Steps l.self (into_iter_items l.pid-iterator) rest last → Steps l.fn.self l.fn.ops.items (l.replies.items ++ rest) last;
  kept : Kept l.self;
  count : length l.replies.items + length (into_iter_items l.pid-iterator) ≡ length l.fn.ops.items;
  room : length l.fn.ops.items ≤ vec_capacity l.replies;
}
