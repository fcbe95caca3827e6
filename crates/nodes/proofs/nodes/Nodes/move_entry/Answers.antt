use Rattle.std.proofs.Common.{◌≡◌, Some, sym, refl, ◌∙◌, arith}
use Rattle.model.specs.FiniteMap as map
use Rattle.nodes.specs.Parts.{table_of}
use Rattle.nodes.proofs.Found.{on_ok}
use Rattle.nodes.proofs.Orderly.{detached_orderly, kept, moved_none, put_given}
use Rattle.nodes.proofs.nodes.Nodes.move_entry.Goals as goal

pub invariant_of-self : goal.invariant_of-self
invariant_of-self c = (
  c.self.invariant.0,
  rw c.remove.ensures.numbers (detached_orderly (table_of c.self.inside.list.nodes c.self.inside.index.numbers c.self.inside.births.counts c.self.inside.next) c.entry.result.now c.self.invariant.1),
)

pub invariant_of-self-2 : goal.invariant_of-self-2
invariant_of-self-2 c =
    let t = table_of c.self.inside.list.nodes c.self.inside.index.numbers c.self.inside.births.counts c.self.inside.next in
    let led : map.get c.self.inside.index.numbers c.args.from.now ≡ Some c.in-Some.number = sym c.get.ensures ∙ c.in-Some.is in
    let put : c.insert-indexed.new.self.numbers ≡ map.insert c.remove-2.new.self.numbers c.into_both-entry.result.1 c.in-Some.number
    = on_ok c.insert-indexed.result (c.insert-indexed.ensures.succeeds (omega (arith, c.in_ok-reserve.ensures.ok, c.remove-2.ensures.room))) c.insert-indexed.ensures.ok in (
      c.self.invariant.0,
      kept t c.put.new.self.nodes c.insert-indexed.new.self.numbers c.self.invariant.1
          (rw c.put.ensures.nodes (moved_none c.self.inside.list.nodes c.in-Some.number c.into_both-entry.result.0 (map.get c.self.inside.list.nodes c.in-Some.number) refl))
          (rw (put, c.remove-2.ensures.numbers, c.reserve.ensures.numbers) (put_given t c.args.from.now c.into_both-entry.result.1 c.in-Some.number c.self.invariant.1 led)),
    )
