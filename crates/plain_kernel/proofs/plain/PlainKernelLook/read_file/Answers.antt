use Rattle.std.proofs.Common.{Option, ap, drop, take, ◌∙◌}
use Rattle.model.specs.FiniteMap.{get}
use Rattle.model.specs.State.{Inode, file_of_inode}
use Rattle.plain_kernel.proofs.Looking.{told_by}
use Rattle.plain_kernel.proofs.plain.PlainKernelLook.read_file.Goals as goal

pub returns-clause-value : goal.returns-clause-value
returns-clause-value c =
    told_by c.read_in.result _ _
    (ap (λ (o : Option Inode). take c.args.count (drop c.args.offset (file_of_inode o))) (c.get.ensures ∙ ap (λ k. get k.inodes c.args.file) c.self.view_is))
    c.read_in.ensures.value
