use Rattle.std.proofs.Common.{◌≡◌, ◌++◌}
use Rattle.conflict.proofs.find.add_clashes_of.Given as goal

abbrev pub invariant-loop-clash : goal.invariant-loop-clash
invariant-loop-clash l = l.all.items ++ l.clash-iterator ≡ l.initial.all.items ++ l.initial.clash-iterator
