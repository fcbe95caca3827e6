use Rattle.std.proofs.Common.{Some, take}
use Rattle.std.specs.List.{AllByRecursion}
use Rattle.replay.specs.Checked.{AreHeld, AreThere}
use Rattle.replay.proofs.checker.keep_each.Given as goal

abbrev pub ghost-keep_all : goal.ghost-keep_all
ghost-keep_all g a = g.es

abbrev pub invariant-loop-slot : goal.invariant-loop-slot
invariant-loop-slot g l = AreHeld g.es l.kept × AllByRecursion (λ slot. AreThere l.kept (Some slot.1)) (take l.slot-index l.slots)
