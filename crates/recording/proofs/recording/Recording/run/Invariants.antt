use Rattle.std.proofs.Common.{◌≡◌, ◌≤◌, ◌+◌, ◌++◌, List, length, vec_capacity}
use Rattle.std.specs.Vec.Iter.{into_iter_items}
use Rattle.model.specs.Entries.{Reply}
use Rattle.machine.specs.Shown.{Shown, Kept}
use Rattle.machine.specs.Steps.{Steps}
use Rattle.recording.proofs.recording.Recording.run.Given as goal

-- whatever steps the other operations are, with those done they are steps of all
abbrev pub invariant-loop-pid : goal.invariant-loop-pid
invariant-loop-pid g l = record {
  goes_on : (rest : List Reply) (last : Shown) → Steps l.self.shown (into_iter_items l.pid-iterator) rest last → Steps l.fn.self.shown l.fn.ops.items (l.replies.items ++ rest) last;
  kept : Kept l.self.shown;
  taken : l.self.taken ≡ l.fn.self.taken;
  count : length l.replies.items + length (into_iter_items l.pid-iterator) ≡ length l.fn.ops.items;
  room : length l.fn.ops.items ≤ vec_capacity l.replies;
}
