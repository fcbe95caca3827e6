use Rattle.std.proofs.Common.{sym, ap, ◌∙◌, nat_cmp}
use Rattle.model.specs.FiniteMap.{FinMap, get}
use Rattle.view_times.specs.Rows.{Rows}
use Rattle.view_times.specs.declared.noted.Notes.{Notes}
use Rattle.view_times.proofs.Written.{found}
use Rattle.view_times.proofs.views.Views.table.Goals as goal

pub returns : goal.returns
returns c =
    c.get.ensures.value
    ∙ sym (found c.self.inside.tables.entries c.args.view)
    ∙ ap (λ (m : FinMap nat_cmp (Rows Notes)). get m c.args.view) c.self.view_is
