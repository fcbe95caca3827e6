use Rattle.std.proofs.Common.{◌≡◌, ◌+◌, arith, rules}
use Rattle.model.specs.FiniteMap as map
use Rattle.mount_tables.specs.Views.{view_of_process}
use Rattle.mount_tables.specs.declared.views.State.TheVariants.{GivenUp}
use Rattle.mount_tables.proofs.Below.{below_insert}
use Rattle.mount_tables.proofs.views.Views.add.Goals as goal

pub invariant_of-self-2 : goal.invariant_of-self-2
invariant_of-self-2 c =
    let n = c.self.inside.next in
    let added : c.insert-added.new.self.rows ≡ map.insert c.self.inside.each.rows n (view_of_process c.args.pid c.args.level GivenUp) = search rules in
    rw added (below_insert c.self.inside.each.rows n n (n + 1) _ c.self.invariant (omega arith) (omega arith))
