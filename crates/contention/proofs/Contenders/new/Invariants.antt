use Rattle.contention.proofs.Standing.{AreMade}
use Rattle.contention.proofs.Contenders.new.Given as goal

abbrev pub invariant-loop-priority : goal.invariant-loop-priority
invariant-loop-priority l = AreMade l.ranks l.records l.priorities l.priority-index
