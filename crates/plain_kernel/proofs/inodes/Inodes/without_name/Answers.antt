use Rattle.std.proofs.Common.{ℕ, ◌-◌, Option, nat_cmp, ap, ◌∙◌}
use Rattle.model.specs.FiniteMap.{FinMap, get, insert, remove}
use Rattle.model.specs.State.{Directory, Inode, names_of_inode}
use Rattle.plain_kernel.specs.Counts.{count_at, given_once}
use Rattle.plain_kernel.proofs.Linked.{counted_as, counted_unnamed}
use Rattle.plain_kernel.proofs.inodes.Inodes.without_name.Goals as goal

pub invariant_of-result : goal.invariant_of-result
invariant_of-result c =
    counted_as _ c.take_name.new.each c.lose_some.new.counts c.in-Ok.ensures.changed
    (counted_unnamed c.self.inside.each c.self.inside.counts c.lose_some.new.counts c.self.invariant c.args.dir c.args.name.now
    (λ n. c.lose_some.ensures n ∙ ap (λ (o : Option ℕ). count_at c.self.inside.counts n - given_once n o) c.in-Ok.ensures.before))

pub returns-in-Ok : goal.returns-in-Ok
returns-in-Ok c =
    c.in-Ok.ensures.changed
    ∙ ap (λ (x : FinMap nat_cmp Inode). insert x c.args.dir (Directory (remove (names_of_inode (get x c.args.dir)) c.args.name.now))) c.self.view_is
