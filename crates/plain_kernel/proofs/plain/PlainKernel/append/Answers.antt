use Rattle.std.proofs.Common.{ap, ◌++◌, ◌∙◌}
use Rattle.model.specs.State.{Pipe, pipe_of_inode}
use Rattle.plain_kernel.proofs.Setting.{inode_replaced, if_ok}
use Rattle.plain_kernel.proofs.plain.PlainKernel.append.Goals as goal

pub returns : goal.returns
returns c = if_ok c.set_inode.result c.set_inode.ensures (λ h. inode_replaced _ _ _ _ _ _ c.in_ok-inode.ensures.left h
    (c.pipe.ensures ∙ ap Pipe (c.in_ok-all.ensures
    ∙ ap (λ old. old ++ c.args.bytes.now) (c.pipe_out.ensures ∙ ap pipe_of_inode c.in_ok-inode.ensures.taken))))
