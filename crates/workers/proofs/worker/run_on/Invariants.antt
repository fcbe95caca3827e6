use Rattle.std.proofs.Common.{◌≡◌, List}
use Rattle.ids.specs.declared.call.Op.{Op}
use Rattle.workers.specs.Families.{children}
use Rattle.workers.specs.Positions.{shown}
use Rattle.workers.specs.Work.{Stands}
use Rattle.workers.proofs.worker.run_on.Given as goal

-- no child was made so far
abbrev pub invariant-loop : goal.invariant-loop
invariant-loop g l = record {
  can_next : (goal.iterator-loop g).can_next l.iterator';
  is_finite : (goal.iterator-loop g).is_finite l.iterator';
  same : g.P.Port.number l.port ≡ g.P.Port.number l.fn.port;
  home : g.P.Port.home l.port ≡ g.P.Port.home l.fn.port;
  went : (lines : List Op) → Stands lines (g.P.Port.done l.fn.port) (shown l.fn.position)
      → Stands lines (g.P.Port.done l.port) (shown l.position) × (children (g.P.Port.done l.port) ≡ children (g.P.Port.done l.fn.port));
}
