use Rattle.std.proofs.Common.{sym, ap, ◌∙◌}
use Rattle.std.specs.Cmp.{nat_cmp_total}
use Rattle.model.specs.FiniteMap as map
use Rattle.plain_kernel.proofs.Trees.{get_at, removed}
use Rattle.plain_kernel.proofs.tree.Tree.remove.Goals as goal

pub returns-clause-changed : goal.returns-clause-changed
returns-clause-changed g c =
    removed nat_cmp_total map.nat_cmp-IsAntisymmetric c.self.inside.slots.entries c.remove.new.self.entries c.args.num c.remove.ensures.updates.0
    ∙ ap (λ m. map.remove m c.args.num) c.self.view_is

pub returns-clause-before : goal.returns-clause-before
returns-clause-before g c = c.remove.ensures.value ∙ sym (get_at nat_cmp_total c.self.inside.slots.entries c.args.num) ∙ ap (λ m. map.get m c.args.num) c.self.view_is
