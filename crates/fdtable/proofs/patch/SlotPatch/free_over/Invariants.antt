-- All are open from the first on below this page.
use Rattle.std.proofs.Common.{◌≢◌, ℕ, ◌*◌, ◌<◌, ◌≤◌, None}
use Rattle.model.specs.FiniteMap.{get}
use Rattle.fdtable.specs.Patches.{or_before}
use Rattle.fdtable.proofs.patch.SlotPatch.free_over.Given as goal

abbrev pub invariant-loop-index : goal.invariant-loop-index
invariant-loop-index l = (f : ℕ) → l.first ≤ f → f < 64 * l.index → or_before (get l.self f) (get l.table f) ≢ None
