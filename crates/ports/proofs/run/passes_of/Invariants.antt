use Rattle.std.proofs.Common.{◌≡◌, ◌++◌, length}
use Rattle.std.specs.List.{AllByRecursion}
use Rattle.turnstile.specs.Histories.{Begins}
use Rattle.ports.proofs.run.passes_of.Given as goal

-- the passes that are there come first, and then those of the ports that wait
abbrev pub invariant-loop-port : goal.invariant-loop-port
invariant-loop-port g l = record {
  begun : AllByRecursion (λ p. Begins p.gate.start p.seen) l.passes.items;
  same : l.passes.items ++ l.ports.items ≡ l.initial.ports.items;
}

abbrev pub decreases-loop-port : goal.decreases-loop-port
decreases-loop-port g l = length l.ports.items
