use Rattle.std.proofs.Common.{◌≡◌, length}
use Rattle.script.specs.Steps.{ops_for}
use Rattle.workers.specs.Rules.{behind_end}
use Rattle.workers.proofs.position.behind_end.Given as goal

-- no line that was passed over ends a transaction
abbrev pub invariant-loop-op : goal.invariant-loop-op
invariant-loop-op l = behind_end (ops_for l.process l.lines) ≡ behind_end (ops_for l.process l.rest)

abbrev pub decreases-loop-op : goal.decreases-loop-op
decreases-loop-op l = length l.rest
