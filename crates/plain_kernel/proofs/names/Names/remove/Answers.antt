use Rattle.std.proofs.Common.{sym, ap, ◌∙◌}
use Rattle.model.specs.FiniteMap as map
use Rattle.plain_kernel.proofs.Orders.{name_total, name_exact}
use Rattle.plain_kernel.proofs.Trees.{get_at, removed}
use Rattle.plain_kernel.proofs.names.Names.remove.Goals as goal

pub returns-clause-changed : goal.returns-clause-changed
returns-clause-changed c =
    removed name_total name_exact c.self.inside.given.entries c.remove.new.self.entries c.args.name.now c.remove.ensures.updates.0
    ∙ ap (λ m. map.remove m c.args.name.now) c.self.view_is

pub returns-clause-before : goal.returns-clause-before
returns-clause-before c = c.remove.ensures.value ∙ sym (get_at name_total c.self.inside.given.entries c.args.name.now) ∙ ap (λ m. map.get m c.args.name.now) c.self.view_is
