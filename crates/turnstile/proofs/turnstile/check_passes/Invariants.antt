use Rattle.std.proofs.Common.{◌≡◌, All}
use Rattle.turnstile.specs.Calls.{KeepsPass}
use Rattle.turnstile.specs.Passes.{gate_of}
use Rattle.turnstile.specs.Holding.{IsSameSeat, closer_of}
use Rattle.turnstile.proofs.turnstile.check_passes.Given as goal

abbrev pub invariant-loop-pass : goal.invariant-loop-pass
invariant-loop-pass g l = record {
  same : IsSameSeat l.initial.seat l.seat;
  me : l.seat.me ≡ l.initial.seat.me;
  gates : All (λ p. p.gate ≡ gate_of l.lock.shared.table_id l.lock.shared.key.value) l.passes.items;
  checked : All (KeepsPass (closer_of l.initial.seat.me.0)) l.passes.items → All (KeepsPass (closer_of l.initial.seat.me.0)) l.initial.passes.items;
}

abbrev pub decreases-loop-pass : goal.decreases-loop-pass
decreases-loop-pass g l = goal.left-loop-pass g l
