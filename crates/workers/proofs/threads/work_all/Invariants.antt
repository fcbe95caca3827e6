use Rattle.std.proofs.Common.{◌≡◌, [], ◌++◌, None, length, map}
use Rattle.std.specs.List.{AllByRecursion}
use Rattle.workers.specs.Threads.{AreOver, promised}
use Rattle.workers.proofs.threads.work_all.Given as goal

-- unless a process got no thread, those with threads come first, and then those that wait
abbrev pub invariant-loop-port : goal.invariant-loop-port
invariant-loop-port g l = record {
  fresh : AllByRecursion (λ p. g.P.Port.done p ≡ []) l.ports.items;
  home : AllByRecursion (λ p. g.P.Port.home p ≡ g.P.Port.home (g.L.Lines.port l.lines)) l.ports.items;
  over : AreOver l.lines l.threads.items;
  numbers : l.stop ≡ None → promised l.threads.items ++ map g.P.Port.number l.ports.items ≡ map g.P.Port.number l.initial.ports.items;
}

abbrev pub decreases-loop-port : goal.decreases-loop-port
decreases-loop-port g l = length l.ports.items
