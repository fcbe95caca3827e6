use Rattle.std.proofs.Common.{sym, ap, ◌∙◌, nat_cmp}
use Rattle.model.specs.FiniteMap as finite
use Rattle.plain_kernel.proofs.Kept.{entries-kept}
use Rattle.plain_kernel.proofs.table.Table.as_slice.Goals as goal

pub returns : goal.returns
returns g c = c.as_slice.ensures.value ∙ sym (entries-kept nat_cmp _ c.self.invariant) ∙ ap finite.entries c.self.view_is
