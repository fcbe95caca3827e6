use Rattle.std.proofs.Common.{Option, ap, ◌∙◌}
use Rattle.model.specs.FiniteMap.{get, keys}
use Rattle.model.specs.State.{Inode, names_of_inode}
use Rattle.plain_kernel.proofs.Looking.{told_by}
use Rattle.plain_kernel.proofs.plain.PlainKernelLook.names.Goals as goal

pub returns : goal.returns
returns c = told_by c.names_in.result _ _ (ap (λ (o : Option Inode). keys (names_of_inode o)) (c.get.ensures ∙ ap (λ k. get k.inodes c.args.dir) c.self.view_is)) c.names_in.ensures
