use Rattle.std.proofs.Common.{nat_eq, ap, ◌∙◌, arith}
use Rattle.std.specs.Cmp.{nat_cmp_total, unsigned_ties}
use Rattle.model.specs.FiniteMap as finite
use Rattle.nodes.specs.Parts.{Counted}
use Rattle.model.proofs.Laws.{same_made}
use Rattle.nodes.proofs.births.Births.reserve.Goals as goal

pub returns-clause-counts : goal.returns-clause-counts
returns-clause-counts c =
    same_made nat_cmp_total finite.nat_cmp-IsAntisymmetric nat_eq unsigned_ties c.self.inside.counts.entries c.reserve.new.self.entries c.reserve.ensures.entries.2
    ∙ ap (λ (b : Counted). b.counts) c.self.view_is

pub returns-clause-room : goal.returns-clause-room
returns-clause-room c = omega (arith, ap (λ (b : Counted). b.room) c.self.view_is, c.reserve.ensures.spare)

pub returns-clause-succeeds : goal.returns-clause-succeeds
returns-clause-succeeds c = λ h. c.reserve.ensures.succeeds (omega (arith, ap (λ (b : Counted). b.room) c.self.view_is, h))
