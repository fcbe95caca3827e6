use Rattle.std.proofs.Common.{nat_eq, sym, ap, ◌∙◌}
use Rattle.std.specs.Cmp.{nat_cmp_total, unsigned_ties}
use Rattle.model.specs.FiniteMap as finite
use Rattle.nodes.specs.Parts.{Listed}
use Rattle.model.proofs.Laws.{get_at}
use Rattle.nodes.proofs.list.NodeList.get.Goals as goal

pub returns : goal.returns
returns c =
    c.get.ensures.value
    ∙ sym (get_at nat_cmp_total finite.nat_cmp-IsAntisymmetric nat_eq unsigned_ties c.self.inside.nodes.entries c.args.number)
    ∙ ap (λ (l : Listed). finite.get l.nodes c.args.number) c.self.view_is
