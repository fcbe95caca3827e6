use Rattle.std.proofs.Common.{ap, ◌∙◌}
use Rattle.model.specs.FiniteMap as finite
use Rattle.mount_tables.proofs.Written.{counts, same_rows}
use Rattle.mount_tables.proofs.by_number.ByNumber.len.Goals as goal

pub returns : goal.returns
returns g c =
    c.len.ensures.len
    ∙ counts c.self.inside.rows.entries c.len.ensures.unique
    ∙ ap (λ m. finite.len m) (same_rows c.self.view_is)
