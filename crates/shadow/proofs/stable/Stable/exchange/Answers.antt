use Rattle.std.proofs.Common.{sym, ap, ◌∙◌}
use Rattle.model.specs.State.{Kernel}
use Rattle.model.specs.Changes.{Edit, applied, tidy}
use Rattle.shadow.proofs.edits.UnusedNumbers.{same_swap}
use Rattle.shadow.proofs.stable.Stable.exchange.Goals as goal

pub returns-clause-state : goal.returns-clause-state
returns-clause-state c =
    c.swap.ensures.state
    ∙ ap (λ (k : Kernel). tidy k)
    (same_swap c.args.chosen.now c.args.self.now.state c.in-Swap.first c.in-Swap.first_name c.in-Swap.first_inode
    c.in-Swap.second c.in-Swap.second_name c.in-Swap.second_inode)
    ∙ ap (λ (e : Edit). tidy (applied c.args.chosen.now e c.args.self.now.state)) (sym c.in-Swap.is)
