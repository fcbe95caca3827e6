use Rattle.std.proofs.Common.{sym, ap, ◌∙◌}
use Rattle.model.specs.State.{links}
use Rattle.shadow.specs.Committed.{Committed}
use Rattle.shadow.specs.Stored.{state_of}
use Rattle.shadow.proofs.claims.Reservations.{links_links_in}
use Rattle.shadow.proofs.stable.Stable.links.Goals as goal

pub returns : goal.returns
returns c = c.links.ensures ∙ sym (links_links_in (state_of c.self.inside.processes c.self.inside.store) c.args.num) ∙ ap (λ (v : Committed). links v.state c.args.num) c.self.view_is
