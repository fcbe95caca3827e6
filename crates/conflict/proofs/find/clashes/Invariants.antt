use Rattle.std.proofs.Common.{take}
use Rattle.conflict.specs.Clashing.{AreClashes}
use Rattle.conflict.proofs.find.clashes.Given as goal

abbrev pub invariant-loop-touch : goal.invariant-loop-touch
invariant-loop-touch l = AreClashes l.records l.caller (take l.touch-index l.counted) l.found.items
