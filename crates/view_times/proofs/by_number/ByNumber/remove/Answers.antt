use Rattle.std.proofs.Common.{nat_eq, ◌∙◌}
use Rattle.std.specs.Cmp.{nat_cmp_total, unsigned_ties}
use Rattle.model.specs.FiniteMap as finite
use Rattle.model.proofs.Laws.{removed}
use Rattle.view_times.proofs.Written.{same_remove}
use Rattle.view_times.proofs.by_number.ByNumber.remove.Goals as goal

pub returns-clause-rows : goal.returns-clause-rows
returns-clause-rows g c =
    removed nat_cmp_total finite.nat_cmp-IsAntisymmetric nat_eq unsigned_ties c.self.inside.rows.entries c.remove.new.self.entries c.args.number c.remove.ensures.updates.0
    ∙ same_remove c.self.view_is c.args.number
