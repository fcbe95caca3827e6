use Rattle.std.proofs.Common.{◌≡◌, drop}
use Rattle.model.specs.FiniteMap.{empty}
use Rattle.model.specs.Moments.{with_processes}
use Rattle.plain_kernel.proofs.start.first_processes.Given as goal

abbrev pub invariant-loop-index : goal.invariant-loop-index
invariant-loop-index l = with_processes 0 l.priorities empty ≡ with_processes l.index (drop l.index l.priorities) l.processes
