use Rattle.plain_kernel.proofs.Edited.{edited, makes_pipe, opens, sets_offset}
use Rattle.plain_kernel.proofs.Setting.{if_ok}
use Rattle.plain_kernel.proofs.plain.PlainKernel.apply_to_descriptions.Goals as goal

pub returns-in-SetOffset : goal.returns-in-SetOffset
returns-in-SetOffset c = edited _ _ _ _ _ c.in-SetOffset.is (sets_offset _ _ _ _ _ c.set_offset.ensures)

pub returns-in-OpenInode : goal.returns-in-OpenInode
returns-in-OpenInode c = if_ok c.open_at.result c.open_at.ensures (λ h. edited _ _ _ _ _ c.in-OpenInode.is (opens _ _ _ _ _ _ _ _ _ _ _ c.made-num.ensures c.number.ensures c.at_start-opened.ensures h))

pub returns-in-MakePipe : goal.returns-in-MakePipe
returns-in-MakePipe c = if_ok c.make_pipe.result c.make_pipe.ensures (λ h. edited _ _ _ _ _ c.in-MakePipe.is (makes_pipe _ _ _ _ _ _ _ _ _ _ c.made-pipe.ensures c.made-reading.ensures c.made-writing.ensures h))
