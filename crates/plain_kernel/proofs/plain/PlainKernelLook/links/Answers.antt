use Rattle.std.proofs.Common.{ap, sym, ◌∙◌}
use Rattle.plain_kernel.specs.Counts.{given_by_all}
use Rattle.plain_kernel.proofs.Counted.{links_is}
use Rattle.plain_kernel.proofs.Looking.{told_by}
use Rattle.plain_kernel.proofs.plain.PlainKernelLook.links.Goals as goal

pub returns : goal.returns
returns c =
    told_by c.small.result _ _
    (c.count.ensures ∙ ap (λ k. given_by_all k.inodes c.args.file) c.self.view_is ∙ sym (links_is c.args.self.now c.args.file))
    c.small.ensures
