use Rattle.std.proofs.Common.{◌≡◌}
use Rattle.bench.proofs.lock.look_through.Given as goal

abbrev pub invariant-loop-i : goal.invariant-loop-i
invariant-loop-i g l = l.pass.gate ≡ l.initial.pass.gate
