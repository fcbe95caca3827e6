use Rattle.std.proofs.Common.{◌≡◌, [], take}
use Rattle.replay.specs.Added.{entries_in, setup_in}
use Rattle.replay.proofs.added.Added.of.Given as goal

abbrev pub invariant-loop-priority : goal.invariant-loop-priority
invariant-loop-priority l =
    (setup_in l.added ≡ record { priorities = take l.priority-index l.beginning.priorities; bounds = l.beginning.bounds }) × (entries_in l.added ≡ [])
