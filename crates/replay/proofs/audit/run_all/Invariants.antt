use Rattle.std.proofs.Common.{take}
use Rattle.replay.specs.Ran.{Ran}
use Rattle.replay.specs.Transactions.{calls_at_positions}
use Rattle.replay.proofs.audit.run_all.Given as goal

abbrev pub invariant-loop-position : goal.invariant-loop-position
invariant-loop-position g l = Ran l.fn.kernel l.pid (calls_at_positions g.es (take l.position-index l.positions)) l.kernel
