use Rattle.std.proofs.Common.{nat_eq, ◌∙◌, arith}
use Rattle.std.specs.Cmp.{nat_cmp_total, unsigned_ties}
use Rattle.model.specs.FiniteMap as finite
use Rattle.model.proofs.Laws.{same_made}
use Rattle.view_times.proofs.Written.{same_room, same_rows}
use Rattle.view_times.proofs.by_number.ByNumber.reserve.Goals as goal

pub returns-clause-rows : goal.returns-clause-rows
returns-clause-rows g c =
    same_made nat_cmp_total finite.nat_cmp-IsAntisymmetric nat_eq unsigned_ties c.self.inside.rows.entries c.reserve.new.self.entries c.reserve.ensures.entries.2
    ∙ same_rows c.self.view_is

pub returns-clause-room : goal.returns-clause-room
returns-clause-room g c = omega (arith, same_room c.self.view_is, c.reserve.ensures.spare)

pub returns-clause-succeeds : goal.returns-clause-succeeds
returns-clause-succeeds g c = λ h. c.reserve.ensures.succeeds (omega (arith, same_room c.self.view_is, h))
