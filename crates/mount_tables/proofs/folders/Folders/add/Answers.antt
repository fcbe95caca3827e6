use Rattle.std.proofs.Common.{◌≡◌, ◌+◌, arith, rules}
use Rattle.model.specs.FiniteMap as map
use Rattle.mount_tables.specs.Folders.{folder_with}
use Rattle.mount_tables.proofs.Below.{below_insert}
use Rattle.mount_tables.proofs.folders.Folders.add.Goals as goal

pub invariant_of-self : goal.invariant_of-self
invariant_of-self c =
    let n = c.self.inside.next in
    let added : c.insert-added.new.self.rows ≡ map.insert c.self.inside.each.rows n (folder_with c.args.node c.args.names) = search rules in
    rw added (below_insert c.self.inside.each.rows n n (n + 1) _ c.self.invariant (omega arith) (omega arith))
