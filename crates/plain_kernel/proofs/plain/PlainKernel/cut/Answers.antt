use Rattle.std.proofs.Common.{ap, ◌∙◌}
use Rattle.model.specs.State.{File, file_of_inode}
use Rattle.model.specs.Changes.{sized}
use Rattle.plain_kernel.proofs.Setting.{inode_replaced, if_ok}
use Rattle.plain_kernel.proofs.plain.PlainKernel.cut.Goals as goal

pub returns : goal.returns
returns c = if_ok c.set_inode.result c.set_inode.ensures (λ h. inode_replaced _ _ _ _ _ _ c.in_ok-inode.ensures.left h
    (c.file.ensures ∙ ap File (c.cut.ensures
    ∙ ap (sized c.args.len) (c.file_out-stored.ensures ∙ ap file_of_inode c.in_ok-inode.ensures.taken))))
