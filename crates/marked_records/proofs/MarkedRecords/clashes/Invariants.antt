use Rattle.std.proofs.Common.{take}
use Rattle.conflict.specs.Clashing.{AreClashes}
use Rattle.marked_records.proofs.MarkedRecords.clashes.Given as goal

abbrev pub invariant-loop-i : goal.invariant-loop-i
invariant-loop-i l = AreClashes l.self l.caller (take l.i l.touches) l.found.items
