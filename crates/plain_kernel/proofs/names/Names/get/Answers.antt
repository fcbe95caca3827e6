use Rattle.std.proofs.Common.{sym, ap, ◌∙◌}
use Rattle.model.specs.FiniteMap as map
use Rattle.plain_kernel.proofs.Orders.{name_total}
use Rattle.plain_kernel.proofs.Trees.{get_at}
use Rattle.plain_kernel.proofs.names.Names.get.Goals as goal

pub returns : goal.returns
returns c = c.copied.ensures ∙ c.get.ensures.value ∙ sym (get_at name_total c.self.inside.given.entries c.args.name.now) ∙ ap (λ m. map.get m c.args.name.now) c.self.view_is
