use Rattle.std.proofs.Common.{ap, ◌∙◌}
use Rattle.model.specs.Changes.{holders}
use Rattle.shadow.specs.Committed.{Committed}
use Rattle.shadow.proofs.viewing.StoredHolders.{stored_holders}
use Rattle.shadow.proofs.stable.Stable.holders.Goals as goal

pub returns : goal.returns
returns c =
    c.holders.ensures ∙ stored_holders c.self.inside.processes c.self.inside.store c.self.invariant c.args.num
    ∙ ap (λ (v : Committed). holders v.state c.args.num) c.self.view_is
