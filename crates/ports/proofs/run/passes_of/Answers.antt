use Rattle.std.proofs.lemmas.List.Elements.{All-from_recursion}
use Rattle.turnstile.specs.Histories.{Begins}
use Rattle.turnstile.specs.Passes.{PassView}
use Rattle.ports.proofs.run.passes_of.Goals as goal

pub returns-clause-begun : goal.returns-clause-begun
returns-clause-begun g c = All-from_recursion (λ (p : PassView). Begins p.gate.start p.seen) _ c.loop-port.invariant.begun
