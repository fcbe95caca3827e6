use Rattle.std.proofs.Common.{ap, ◌∙◌}
use Rattle.model.specs.Changes.{set_name}
use Rattle.plain_kernel.proofs.Setting.{if_ok}
use Rattle.plain_kernel.proofs.plain.PlainKernel.make.Goals as goal

pub returns : goal.returns
returns c = if_ok c.set_name.result c.set_name.ensures (λ h. h ∙ ap (set_name c.args.dir c.args.name.now c.args.num) c.in_ok-set_inode.ensures)
