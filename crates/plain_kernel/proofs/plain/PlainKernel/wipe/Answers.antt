use Rattle.std.proofs.Common.{List, ℕ, ap, replicate, ◌∙◌}
use Rattle.model.specs.State.{File, file_of_inode}
use Rattle.model.specs.Changes.{written}
use Rattle.plain_kernel.proofs.Setting.{inode_replaced, if_ok}
use Rattle.plain_kernel.proofs.plain.PlainKernel.wipe.Goals as goal

pub returns : goal.returns
returns c = if_ok c.set_inode.result c.set_inode.ensures (λ h. inode_replaced _ _ _ _ _ _ c.in_ok-inode.ensures.left h
    (c.file.ensures ∙ ap File (c.wipe.ensures
    ∙ ap (λ (bytes : List ℕ). written bytes c.args.offset (replicate c.args.count 0)) (c.file_out-stored.ensures ∙ ap file_of_inode c.in_ok-inode.ensures.taken))))
