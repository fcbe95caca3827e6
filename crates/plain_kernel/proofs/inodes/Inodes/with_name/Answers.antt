use Rattle.std.proofs.Common.{nat_cmp, ap, ◌∙◌}
use Rattle.model.specs.FiniteMap.{FinMap, get, insert}
use Rattle.model.specs.State.{Directory, Inode, names_of_inode}
use Rattle.plain_kernel.proofs.Linked.{counted_as, counted_named}
use Rattle.plain_kernel.proofs.inodes.Inodes.with_name.Goals as goal

pub invariant_of-result : goal.invariant_of-result
invariant_of-result c =
    counted_as _ c.set_name.new.each c.set_name.new.counts c.in-Ok.ensures.changed
    (counted_named c.self.inside.each c.self.inside.counts c.set_name.new.counts c.self.invariant c.args.dir c.args.name.now c.args.num c.in-Ok.ensures.counted)

pub returns-in-Ok : goal.returns-in-Ok
returns-in-Ok c =
    c.in-Ok.ensures.changed
    ∙ ap (λ (x : FinMap nat_cmp Inode). insert x c.args.dir (Directory (insert (names_of_inode (get x c.args.dir)) c.args.name.now c.args.num))) c.self.view_is
