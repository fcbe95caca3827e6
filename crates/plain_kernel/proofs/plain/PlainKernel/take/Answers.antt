use Rattle.std.proofs.Common.{ap, drop, ◌∙◌}
use Rattle.model.specs.State.{Pipe, pipe_of_inode}
use Rattle.plain_kernel.proofs.Pieces.{rest_within}
use Rattle.plain_kernel.proofs.Setting.{inode_replaced, if_ok}
use Rattle.plain_kernel.proofs.plain.PlainKernel.take.Goals as goal

pub returns : goal.returns
returns c = if_ok c.set_inode.result c.set_inode.ensures (λ h. inode_replaced _ _ _ _ _ _ c.in_ok-inode.ensures.left h
    (c.pipe.ensures ∙ ap Pipe (c.in_ok-left.ensures ∙ rest_within c.as_slice-bytes.result.now c.args.count c.min.result c.min.ensures
    ∙ ap (drop c.args.count) (c.as_slice-bytes.ensures ∙ c.pipe_out-all.ensures ∙ ap pipe_of_inode c.in_ok-inode.ensures.taken))))
