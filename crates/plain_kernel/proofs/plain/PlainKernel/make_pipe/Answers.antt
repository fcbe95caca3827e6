use Rattle.std.proofs.Common.{◌≡◌, [], refl, ap, ◌∙◌}
use Rattle.model.specs.State.{Pipe}
use Rattle.model.specs.Changes.{open_at, set_inode, to_read, to_write}
use Rattle.plain_kernel.proofs.Setting.{opened_at, if_ok}
use Rattle.plain_kernel.proofs.plain.PlainKernel.make_pipe.Goals as goal

pub returns : goal.returns
returns c =
    let first : c.set_inode.new.self ≡ set_inode c.args.nums.0 (Pipe []) c.args.self.now = c.in_ok-set_inode.ensures ∙ ap (λ i. set_inode c.args.nums.0 i c.args.self.now) (c.pipe.ensures ∙ ap Pipe c.no_bytes.ensures) in
    let second : c.open_at.new.self ≡ open_at c.args.nums.1 c.args.nums.0 to_read c.args.pid c.args.fds.0 (set_inode c.args.nums.0 (Pipe []) c.args.self.now) =
    opened_at _ _ _ _ _ _ _ _ _ c.at_start.ensures refl c.in_ok-open_at.ensures ∙ ap (open_at c.args.nums.1 c.args.nums.0 to_read c.args.pid c.args.fds.0) first in
    if_ok c.open_at-2.result c.open_at-2.ensures (λ h. opened_at _ _ _ _ _ _ _ _ _ c.at_start-2.ensures refl h ∙ ap (open_at c.args.nums.2 c.args.nums.0 to_write c.args.pid c.args.fds.1) second)
