use Rattle.std.proofs.Common.{◌≡◌, ◌++◌, length}
use Rattle.std.specs.List.{AllByRecursion}
use Rattle.ports.proofs.run.ports_of.Given as goal

-- the ports that are there come first, and then those of the passes that wait
abbrev pub invariant-loop-pass : goal.invariant-loop-pass
invariant-loop-pass g l = record {
  gates : AllByRecursion (λ p. p.gate ≡ l.turnstile) l.passes.items;
  begun : AllByRecursion (λ p. p.seen ≡ p.gate.start) l.passes.items;
  same : l.ports.items ++ l.passes.items ≡ l.initial.passes.items;
}

abbrev pub decreases-loop-pass : goal.decreases-loop-pass
decreases-loop-pass g l = length l.passes.items
