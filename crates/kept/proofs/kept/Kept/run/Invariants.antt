use Rattle.std.proofs.Common.{◌≡◌, ◌≤◌, ◌+◌, ◌++◌, ℕ, List, length, vec_capacity}
use Rattle.std.specs.Vec.Iter.{into_iter_items}
use Rattle.model.specs.Entries.{Reply}
use Rattle.machine.specs.Shown.{Shown, Kept}
use Rattle.machine.specs.Steps.{Steps}
use Rattle.kept.specs.Keeps.{StandsFor}
use Rattle.kept.proofs.kept.Kept.run.Given as goal

-- whatever steps the other operations are, with those done they are steps of all
abbrev pub invariant-loop-pid : goal.invariant-loop-pid
invariant-loop-pid g l = record {
  goes_on : (rest : List Reply) (last : Shown) → Steps l.self.machine.shown (into_iter_items l.pid-iterator) rest last → Steps l.fn.self.machine.shown l.fn.ops.items (l.replies.items ++ rest) last;
  kept : Kept l.self.machine.shown;
  stands : (kept : List (List ℕ)) → StandsFor l.fn.self.fault l.fn.self.store l.fn.self.machine.shown.log kept → StandsFor l.self.fault l.self.store l.self.machine.shown.log kept;
  count : length l.replies.items + length (into_iter_items l.pid-iterator) ≡ length l.fn.ops.items;
  room : length l.fn.ops.items ≤ vec_capacity l.replies;
}
