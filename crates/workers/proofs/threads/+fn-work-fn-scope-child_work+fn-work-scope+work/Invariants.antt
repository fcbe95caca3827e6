use Rattle.std.proofs.Common.{◌≡◌, ◌+◌, ◌*◌, None}
use Rattle.script.specs.Steps.{ops_for}
use Rattle.workers.specs.Families.{children}
use Rattle.workers.specs.Positions.{shown}
use Rattle.workers.specs.Threads.{AreOver, promised}
use Rattle.workers.specs.Work.{Stands}
use Rattle.workers.proofs.threads.+fn-work-fn-scope-child_work+fn-work-scope+work.Given as goal

abbrev pub decreases-work : goal.decreases-work
decreases-work g l = 3 * l.levels + 2

abbrev pub decreases-scope : goal.decreases-scope
decreases-scope g l = 3 * l.levels + 1

abbrev pub decreases-scope-child_work : goal.decreases-scope-child_work
decreases-scope-child_work g l = 3 * l.levels

-- unless a child was stopped, there is a thread for each child so far
abbrev pub invariant-scope-loop : goal.invariant-scope-loop
invariant-scope-loop g l = record {
  can_next : (goal.iterator-scope-loop g).can_next l.iterator';
  is_finite : (goal.iterator-scope-loop g).is_finite l.iterator';
  number : g.P.Port.number l.port ≡ g.P.Port.number l.initial.port;
  stands : Stands (ops_for (g.P.Port.number l.port) (g.L.Lines.listed l.lines.now)) (g.P.Port.done l.port) (shown l.position);
  threads : l.stop ≡ None → promised l.threads.items ≡ children (g.P.Port.done l.port);
  home : g.P.Port.home l.port ≡ g.P.Port.home (g.L.Lines.port l.lines.now);
  over : AreOver l.lines.now l.threads.items;
}
