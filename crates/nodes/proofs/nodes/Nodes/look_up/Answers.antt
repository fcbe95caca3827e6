use Rattle.std.proofs.Common.{refl}
use Rattle.model.specs.FiniteMap as map
use Rattle.nodes.specs.Parts.{table_of}
use Rattle.nodes.proofs.Orderly.{counted_none, kept}
use Rattle.nodes.proofs.nodes.Nodes.look_up.Goals as goal

pub invariant_of-self : goal.invariant_of-self
invariant_of-self c =
    let t = table_of c.self.inside.list.nodes c.self.inside.index.numbers c.self.inside.births.counts c.self.inside.next in (
      c.self.invariant.0,
      kept t c.count.new.self.nodes c.self.inside.index.numbers c.self.invariant.1
          (rw c.count.ensures.nodes (counted_none c.self.inside.list.nodes c.in-Some.number (map.get c.self.inside.list.nodes c.in-Some.number) refl))
          c.self.invariant.1.numbers,
    )
