use Rattle.std.proofs.Common.{sym, ap, ◌∙◌}
use Rattle.std.specs.Cmp.{nat_cmp_total}
use Rattle.model.specs.FiniteMap as map
use Rattle.plain_kernel.proofs.Trees.{get_at}
use Rattle.plain_kernel.proofs.tree.Tree.get.Goals as goal

pub returns : goal.returns
returns g c = c.get.ensures.value ∙ sym (get_at nat_cmp_total c.self.inside.slots.entries c.args.num) ∙ ap (λ m. map.get m c.args.num) c.self.view_is
