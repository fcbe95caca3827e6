use Rattle.std.proofs.Common.{◌≡◌}
use Rattle.turnstile.proofs.turnstile.Turnstile.look_and_take.Given as goal

abbrev pub invariant-loop : goal.invariant-loop
invariant-loop g l = l.seat ≡ l.initial.seat
