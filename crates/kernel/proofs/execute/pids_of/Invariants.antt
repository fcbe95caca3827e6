use Rattle.kernel.proofs.Words.{◌≡◌, map, take}
use Rattle.kernel.proofs.execute.pids_of.Given as goal

abbrev pub invariant-loop-one : goal.invariant-loop-one
invariant-loop-one l = record { so_far : l.pids ≡ map (λ d. d.pid) (take l.one-index l.doomed) }
