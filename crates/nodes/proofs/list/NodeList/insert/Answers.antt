use Rattle.std.proofs.Common.{nat_eq, ap, ◌∙◌}
use Rattle.std.specs.Cmp.{nat_cmp_total, unsigned_ties}
use Rattle.model.specs.FiniteMap as finite
use Rattle.nodes.specs.Parts.{Listed}
use Rattle.model.proofs.Laws.{inserted}
use Rattle.nodes.proofs.list.NodeList.insert.Goals as goal

pub returns-clause-ok : goal.returns-clause-ok
returns-clause-ok c =
    inserted nat_cmp_total finite.nat_cmp-IsAntisymmetric nat_eq unsigned_ties c.self.inside.nodes.entries c.insert.new.self.entries c.args.number c.args.node c.in_ok-insert.ensures.updates.0
    ∙ ap (λ (l : Listed). finite.insert l.nodes c.args.number c.args.node) c.self.view_is
