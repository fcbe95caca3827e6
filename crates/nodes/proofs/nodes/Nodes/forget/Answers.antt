use Rattle.std.proofs.Common.{refl}
use Rattle.model.specs.FiniteMap as map
use Rattle.nodes.specs.Parts.{table_of}
use Rattle.nodes.proofs.Orderly.{kept, lessened_none, one_went, unlinked_given}
use Rattle.nodes.proofs.nodes.Nodes.forget.Goals as goal

pub invariant_of-self : goal.invariant_of-self
invariant_of-self c =
    let t = table_of c.self.inside.list.nodes c.self.inside.index.numbers c.self.inside.births.counts c.self.inside.next in (
      c.self.invariant.0,
      kept t c.lessen.new.self.nodes c.self.inside.index.numbers c.self.invariant.1
          (rw c.lessen.ensures.nodes (lessened_none c.self.inside.list.nodes c.args.number c.args.count (map.get c.self.inside.list.nodes c.args.number) refl))
          c.self.invariant.1.numbers,
    )

pub invariant_of-self-else-lookups-count : goal.invariant_of-self-else-lookups-count
invariant_of-self-else-lookups-count c =
    let t = table_of c.self.inside.list.nodes c.self.inside.index.numbers c.self.inside.births.counts c.self.inside.next in (
      c.self.invariant.0,
      kept t c.drop_node.new.list.nodes c.drop_node.new.index.numbers c.self.invariant.1
          (rw c.drop_node.ensures.nodes (one_went c.self.inside.list.nodes c.args.number))
          (rw c.drop_node.ensures.numbers (unlinked_given t c.args.number (map.get c.self.inside.list.nodes c.args.number) c.self.invariant.1)),
    )
