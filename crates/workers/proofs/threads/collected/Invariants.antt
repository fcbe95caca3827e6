use Rattle.std.proofs.Common.{◌≡◌, None, length}
use Rattle.workers.specs.Threads.{AreOver, promised}
use Rattle.workers.proofs.Gathering.{Completes}
use Rattle.workers.proofs.threads.collected.Given as goal

-- The families that are still to come complete those that were added.
abbrev pub invariant-loop-thread : goal.invariant-loop-thread
invariant-loop-thread g l = record {
  over : AreOver l.lines l.threads.items;
  none : l.stop ≡ None → l.fn.stop ≡ None;
  rest : l.stop ≡ None → Completes g.P.Port.number g.P.Port.home g.P.Port.done (g.L.Lines.listed l.lines) (g.P.Port.home (g.L.Lines.port l.lines)) (promised l.fn.threads.items) (promised l.threads.items) l.fn.ports.items l.ports.items;
}

abbrev pub decreases-loop-thread : goal.decreases-loop-thread
decreases-loop-thread g l = length l.threads.items
