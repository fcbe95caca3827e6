use Rattle.std.proofs.Common.{◌-◌, Option, ap, ◌∙◌}
use Rattle.model.specs.State.{Inode, names_of_inode}
use Rattle.plain_kernel.specs.Counts.{count_at, times_given}
use Rattle.plain_kernel.proofs.Linked.{counted_as, counted_set}
use Rattle.plain_kernel.proofs.inodes.Inodes.insert.Goals as goal

pub invariant_of-self-2 : goal.invariant_of-self-2
invariant_of-self-2 c =
    counted_as _ c.insert.new.self c.lose_all.new.counts c.in_ok-before.ensures.changed
    (counted_set c.self.inside.each c.self.inside.counts c.lose_all.new.counts c.self.invariant c.args.num c.args.inode c.requires
    (λ n. c.lose_all.ensures n ∙ ap (λ (o : Option Inode). count_at c.self.inside.counts n - times_given n (names_of_inode o)) c.in_ok-before.ensures.before))
