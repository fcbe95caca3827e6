use Rattle.std.proofs.Common.{Option, ap, take, ◌∙◌}
use Rattle.model.specs.FiniteMap.{get}
use Rattle.model.specs.State.{Inode, pipe_of_inode}
use Rattle.plain_kernel.proofs.Looking.{told_by}
use Rattle.plain_kernel.proofs.Pieces.{first_within}
use Rattle.plain_kernel.proofs.plain.PlainKernelLook.read_pipe.Goals as goal

pub returns : goal.returns
returns c =
    told_by c.copy.result _ _
    (first_within c.pipe_in-all.result.now c.args.count c.min.result c.min.ensures ∙ ap (take c.args.count) (c.pipe_in-all.ensures ∙ ap (λ (o : Option Inode). pipe_of_inode o) (c.get.ensures ∙ ap (λ k. get k.inodes c.args.pipe) c.self.view_is)))
    c.copy.ensures
