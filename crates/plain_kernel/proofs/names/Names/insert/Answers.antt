use Rattle.std.proofs.Common.{sym, ap, ◌∙◌}
use Rattle.model.specs.FiniteMap as map
use Rattle.model.specs.State.{Name}
use Rattle.plain_kernel.proofs.Orders.{name_total, name_exact}
use Rattle.plain_kernel.proofs.Trees.{get_at, inserted}
use Rattle.plain_kernel.proofs.names.Names.insert.Goals as goal

pub returns-clause-changed : goal.returns-clause-changed
returns-clause-changed c =
    inserted name_total name_exact c.self.inside.given.entries c.insert.new.self.entries c.in_ok-try_clone.field-0 c.args.num c.in_ok-insert.ensures.updates.0
    ∙ ap (λ m. map.insert m c.in_ok-try_clone.field-0 c.args.num) c.self.view_is
    ∙ ap (λ (x : Name). map.insert c.args.self.now x c.args.num) c.in_ok-try_clone.ensures

pub returns-clause-before : goal.returns-clause-before
returns-clause-before c =
    c.in_ok-insert.ensures.old ∙ sym (get_at name_total c.self.inside.given.entries c.in_ok-try_clone.field-0) ∙ ap (λ m. map.get m c.in_ok-try_clone.field-0) c.self.view_is
    ∙ ap (λ (x : Name). map.get c.args.self.now x) c.in_ok-try_clone.ensures
