use Rattle.plain_kernel.proofs.Freed.{inode_left}
use Rattle.plain_kernel.proofs.plain.PlainKernel.clear_inode.Goals as goal

pub returns : goal.returns
returns c = inode_left _ _ _ _ _ c.self.view_is c.remove.ensures c.remove-rights.ensures.changed
