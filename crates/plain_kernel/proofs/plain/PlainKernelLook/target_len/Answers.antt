use Rattle.std.proofs.Common.{Option, length, ap, ◌∙◌}
use Rattle.model.specs.FiniteMap.{get}
use Rattle.model.specs.State.{Inode, target_of_inode}
use Rattle.plain_kernel.proofs.plain.PlainKernelLook.target_len.Goals as goal

pub returns : goal.returns
returns c = ap length (c.target_in.ensures.value ∙ ap (λ (o : Option Inode). target_of_inode o) (c.get.ensures ∙ ap (λ k. get k.inodes c.args.link) c.self.view_is))
