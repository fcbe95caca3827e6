use Rattle.std.proofs.Common.{◌≡◌}
use Rattle.edge_tests.proofs.of_passes.refusals.Given as goal

abbrev pub invariant-loop-number : goal.invariant-loop-number
invariant-loop-number g l = l.pass.gate ≡ l.initial.pass.gate
