use Rattle.plain_kernel.proofs.Setting.{inode_set}
use Rattle.plain_kernel.proofs.plain.PlainKernel.set_inode.Goals as goal

pub returns : goal.returns
returns c = inode_set _ _ _ _ _ c.self.view_is c.in_ok-insert.ensures.changed
