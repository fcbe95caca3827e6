use Rattle.std.proofs.Common.{Option, ap, ◌∙◌}
use Rattle.model.specs.FiniteMap.{get}
use Rattle.model.specs.Holes.{alike_from}
use Rattle.model.specs.State.{Inode, file_of_inode}
use Rattle.plain_kernel.proofs.plain.PlainKernelLook.pass.Goals as goal

pub returns-clause-value : goal.returns-clause-value
returns-clause-value c =
    c.passed_in.ensures.value
    ∙ ap (λ (o : Option Inode). alike_from c.args.holes (file_of_inode o) c.args.first c.args.count) (c.get.ensures ∙ ap (λ k. get k.inodes c.args.file) c.self.view_is)
