use Rattle.std.proofs.Common.{◌≡◌, arith}
use Rattle.model.specs.FiniteMap as map
use Rattle.nodes.specs.Parts.{table_of}
use Rattle.nodes.specs.declared.node.Node.{Node}
use Rattle.nodes.proofs.Found.{on_ok}
use Rattle.nodes.proofs.Orderly.{put_orderly}
use Rattle.nodes.proofs.nodes.Nodes.add.Goals as goal

pub invariant_of-self-2 : goal.invariant_of-self-2
invariant_of-self-2 c =
    let t = table_of c.self.inside.list.nodes c.self.inside.index.numbers c.self.inside.births.counts c.self.inside.next in
    let node : Node = record { entry = c.into_both-entry.result.0; root = c.root_in-root.result; inode = c.args.inode; birth = c.get.result; kind = c.args.kind; lookups = 1 } in
    let listed : c.insert-listed.new.self.nodes ≡ map.insert c.reserve_both.new.list.nodes c.self.inside.next node
    = on_ok c.insert-listed.result (c.insert-listed.ensures.succeeds c.in_ok-reserve_both.ensures.listed) c.insert-listed.ensures.ok in
    let indexed : c.insert-indexed.new.self.numbers ≡ map.insert c.reserve_both.new.index.numbers c.into_both-entry.result.1 c.self.inside.next
    = on_ok c.insert-indexed.result (c.insert-indexed.ensures.succeeds c.in_ok-reserve_both.ensures.indexed) c.insert-indexed.ensures.ok in (
      omega (arith, c.in_ok-reserve_both.ensures.left),
      rw (listed, indexed, c.reserve_both.ensures.nodes, c.reserve_both.ensures.numbers) (put_orderly t node c.into_both-entry.result.1 c.self.invariant.1 (omega (arith, c.get.ensures))),
    )
