use Rattle.std.proofs.Common.{nat_eq, nat_cmp, sym, ap, ◌∙◌}
use Rattle.std.specs.Cmp.{nat_cmp_total, unsigned_ties}
use Rattle.model.specs.FiniteMap as finite
use Rattle.model.proofs.Laws.{removed}
use Rattle.view_times.specs.Rows.{Rows}
use Rattle.view_times.specs.declared.noted.Notes.{Notes}
use Rattle.view_times.proofs.Written.{found}
use Rattle.view_times.proofs.views.Views.take.Goals as goal

pub returns-clause-tables : goal.returns-clause-tables
returns-clause-tables c =
    removed nat_cmp_total finite.nat_cmp-IsAntisymmetric nat_eq unsigned_ties c.self.inside.tables.entries c.remove.new.self.entries c.args.view c.remove.ensures.updates.0
    ∙ ap (λ (m : finite.FinMap nat_cmp (Rows Notes)). finite.remove m c.args.view) c.self.view_is

pub returns-clause-table : goal.returns-clause-table
returns-clause-table c =
    c.remove.ensures.value
    ∙ sym (found c.self.inside.tables.entries c.args.view)
    ∙ ap (λ (m : finite.FinMap nat_cmp (Rows Notes)). finite.get m c.args.view) c.self.view_is
