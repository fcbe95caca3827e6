-- The names so far are the same.
use Rattle.std.proofs.Common.{◌≡◌, ◌≤◌, length, drop}
use Rattle.model.specs.Paths.{is_below}
use Rattle.path.proofs.Path.is_below.Given as goal

abbrev pub invariant-loop-i : goal.invariant-loop-i
invariant-loop-i l = record {
  within : l.i ≤ length l.above;
  rest : is_below l.above l.below ≡ is_below (drop l.i l.above) (drop l.i l.below);
}
