use Rattle.std.proofs.Common.{Option, ap, ◌∙◌}
use Rattle.model.specs.FiniteMap.{get}
use Rattle.model.specs.State.{Inode, target_of_inode}
use Rattle.plain_kernel.proofs.Looking.{told_by}
use Rattle.plain_kernel.proofs.plain.PlainKernelLook.target.Goals as goal

pub returns : goal.returns
returns c =
    told_by c.copy.result _ _ (c.target_in.ensures.value ∙ ap (λ (o : Option Inode). target_of_inode o) (c.get.ensures ∙ ap (λ k. get k.inodes c.args.link) c.self.view_is)) c.copy.ensures
