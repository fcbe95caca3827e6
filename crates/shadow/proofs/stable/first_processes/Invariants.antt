-- The processes that are still to come stand behind.
use Rattle.std.proofs.Common.{◌≡◌, ◌++◌, drop, map}
use Rattle.shadow.proofs.shared.ProcessLemmas.{fresh}
use Rattle.shadow.proofs.stable.first_processes.Given as goal

abbrev pub invariant-loop-priority : goal.invariant-loop-priority
invariant-loop-priority l = map fresh l.priorities ≡ l.processes.items ++ map fresh (drop l.priority-index l.priorities)
