use Rattle.std.proofs.Common.{◌≢◌, None, take}
use Rattle.std.specs.List.{AllByRecursion}
use Rattle.model.specs.FiniteMap.{get}
use Rattle.replay.specs.Checked.{AreHeld, Grows}
use Rattle.replay.proofs.checker.keep_all.Given as goal

abbrev pub invariant-loop-position : goal.invariant-loop-position
invariant-loop-position g l = AreHeld g.es l.kept × AllByRecursion (λ position. get l.kept position ≢ None) (take l.position-index l.positions) × Grows l.fn.kept l.kept
