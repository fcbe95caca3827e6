use Rattle.std.proofs.Common.{ap, ◌∙◌}
use Rattle.model.specs.Changes.{process_of, set_process, with_slot}
use Rattle.plain_kernel.proofs.Setting.{if_ok}
use Rattle.plain_kernel.proofs.plain.PlainKernel.open_at.Goals as goal

pub returns : goal.returns
returns c = if_ok c.set_slot.result c.set_slot.ensures (λ h. h ∙ ap (λ k. set_process c.args.pid (with_slot c.args.fd c.args.num (process_of k c.args.pid)) k) c.in_ok-set_description.ensures)
