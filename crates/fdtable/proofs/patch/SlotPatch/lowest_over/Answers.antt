use Rattle.std.proofs.Common.{ℕ, subst}
use Rattle.fdtable.specs.Lowest.{IsFree}
use Rattle.fdtable.proofs.patch.SlotPatch.lowest_over.Goals as goal

pub returns : goal.returns
returns c laid is = c.below.ensures laid c.args.first (subst (λ (n : ℕ). IsFree laid n c.free_over.result) c.first.view_is (c.free_over.ensures laid is))
