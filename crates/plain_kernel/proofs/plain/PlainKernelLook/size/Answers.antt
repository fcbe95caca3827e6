use Rattle.std.proofs.Common.{Option, length, ap, ◌∙◌}
use Rattle.model.specs.FiniteMap.{get}
use Rattle.model.specs.State.{Inode, file_of_inode}
use Rattle.plain_kernel.proofs.plain.PlainKernelLook.size.Goals as goal

pub returns : goal.returns
returns c = c.size_in.ensures ∙ ap (λ (o : Option Inode). length (file_of_inode o)) (c.get.ensures ∙ ap (λ k. get k.inodes c.args.file) c.self.view_is)
