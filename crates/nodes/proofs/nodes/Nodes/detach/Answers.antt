use Rattle.nodes.specs.Parts.{table_of}
use Rattle.nodes.proofs.Orderly.{detached_orderly}
use Rattle.nodes.proofs.nodes.Nodes.detach.Goals as goal

pub invariant_of-self : goal.invariant_of-self
invariant_of-self c = (
  c.self.invariant.0,
  rw c.remove.ensures.numbers (detached_orderly (table_of c.self.inside.list.nodes c.self.inside.index.numbers c.self.inside.births.counts c.self.inside.next) c.args.entry.now c.self.invariant.1),
)
