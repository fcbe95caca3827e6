use Rattle.std.proofs.Common.{◌≡◌, ◌<◌, ℕ, length}
use Rattle.turnstile.specs.Calls.{has_pass}
use Rattle.turnstile.specs.Holding.{is_set}
use Rattle.turnstile.proofs.turnstile.living.Given as goal

abbrev pub invariant-loop-number : goal.invariant-loop-number
invariant-loop-number g l = record {
  len : length l.living.items ≡ l.number;
  each : (i : ℕ) → i < l.number → is_set l.living.items i ≡ has_pass (g.K.Machine.shown l.kernel).state i;
}
