use Rattle.std.proofs.Common.{Option, ap, ◌∙◌}
use Rattle.model.specs.FiniteMap.{get, keys}
use Rattle.model.specs.Paths.{is_empty}
use Rattle.model.specs.State.{Inode, names_of_inode}
use Rattle.plain_kernel.proofs.plain.PlainKernelLook.is_empty.Goals as goal

pub returns : goal.returns
returns c = c.is_empty_in.ensures ∙ ap (λ (o : Option Inode). is_empty (keys (names_of_inode o))) (c.get.ensures ∙ ap (λ k. get k.inodes c.args.dir) c.self.view_is)
