use Rattle.std.proofs.Common.{◌-◌, Option, ap, ◌∙◌}
use Rattle.model.specs.State.{Inode, names_of_inode}
use Rattle.plain_kernel.specs.Counts.{count_at, times_given}
use Rattle.plain_kernel.proofs.Linked.{counted_as, counted_gone}
use Rattle.plain_kernel.proofs.inodes.Inodes.remove.Goals as goal

pub invariant_of-self : goal.invariant_of-self
invariant_of-self c =
    counted_as _ c.remove-before.new.self c.lose_all.new.counts c.remove-before.ensures.changed
    (counted_gone c.self.inside.each c.self.inside.counts c.lose_all.new.counts c.self.invariant c.args.num
    (λ n. c.lose_all.ensures n ∙ ap (λ (o : Option Inode). count_at c.self.inside.counts n - times_given n (names_of_inode o)) c.remove-before.ensures.before))
