use Rattle.std.proofs.Common.{nat_eq, sym, ap, ◌∙◌}
use Rattle.std.specs.Cmp.{nat_cmp_total, unsigned_ties}
use Rattle.model.specs.FiniteMap as finite
use Rattle.nodes.specs.Parts.{Listed}
use Rattle.model.proofs.Laws.{get_at, removed}
use Rattle.nodes.proofs.list.NodeList.remove.Goals as goal

pub returns-clause-nodes : goal.returns-clause-nodes
returns-clause-nodes c =
    removed nat_cmp_total finite.nat_cmp-IsAntisymmetric nat_eq unsigned_ties c.self.inside.nodes.entries c.remove.new.self.entries c.args.number c.remove.ensures.updates.0
    ∙ ap (λ (l : Listed). finite.remove l.nodes c.args.number) c.self.view_is

pub returns-clause-node : goal.returns-clause-node
returns-clause-node c =
    c.remove.ensures.value
    ∙ sym (get_at nat_cmp_total finite.nat_cmp-IsAntisymmetric nat_eq unsigned_ties c.self.inside.nodes.entries c.args.number)
    ∙ ap (λ (l : Listed). finite.get l.nodes c.args.number) c.self.view_is
