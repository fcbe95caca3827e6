use Rattle.std.proofs.Common.{◌≡◌, ℕ}
use Rattle.model.specs.Steps.{Touch}
use Rattle.records.specs.Holders.{has_mark}
use Rattle.conflict.specs.Clashing.{is_found}
use Rattle.conflict.specs.Order.{AreOfTouch}
use Rattle.conflict.proofs.find.in_order.Given as goal

abbrev pub invariant-loop-mark : goal.invariant-loop-mark
invariant-loop-mark l = record {
  mine : AreOfTouch l.touch l.set.keys;
  exact : (q : ℕ) (u : Touch) → is_found q u l.set.keys ≡ has_mark q u l.yielded;
}
