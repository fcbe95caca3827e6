use Rattle.std.proofs.Common.{◌+◌, ap, ◌∙◌}
use Rattle.plain_kernel.specs.Counts.{count_at}
use Rattle.plain_kernel.proofs.Linked.{gained}
use Rattle.plain_kernel.proofs.Setting.{if_ok}
use Rattle.plain_kernel.proofs.counts.gain.Goals as goal

pub returns-clause-gained : goal.returns-clause-gained
returns-clause-gained c = if_ok c.set.result c.set.ensures.changed (λ h n.
    ap (λ m. count_at m n) h ∙ gained c.args.counts.now c.args.num n c.in_ok-more.more c.args.count (c.in_ok-more.ensures ∙ ap (λ m. m + c.args.count) c.count_of.ensures))
