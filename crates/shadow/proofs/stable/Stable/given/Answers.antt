use Rattle.std.proofs.Common.{nat_cmp, Option, sym, ap, ◌∙◌}
use Rattle.model.specs.FiniteMap.{get, get-empty}
use Rattle.model.specs.State.{Process}
use Rattle.model.specs.Changes.{or_new, process_of}
use Rattle.shadow.specs.Committed.{Committed}
use Rattle.shadow.proofs.stable.Stable.given.Goals as goal

pub returns-in-None : goal.returns-in-None
returns-in-None c =
    sym (get-empty nat_cmp c.args.fd) ∙ ap (λ (o : Option Process). get (or_new o).table c.args.fd) c.in-None.ensures
    ∙ ap (λ (s : Committed). get (process_of s.state c.args.pid).table c.args.fd) c.self.view_is
