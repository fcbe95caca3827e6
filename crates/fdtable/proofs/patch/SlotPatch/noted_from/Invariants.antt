-- Nothing is noted from the first on below this page.
use Rattle.std.proofs.Common.{◌≡◌, ℕ, ◌*◌, ◌<◌, ◌≤◌, None}
use Rattle.model.specs.FiniteMap.{get}
use Rattle.fdtable.proofs.patch.SlotPatch.noted_from.Given as goal

abbrev pub invariant-loop-index : goal.invariant-loop-index
invariant-loop-index l = (f : ℕ) → l.first ≤ f → f < 64 * l.index → get l.self f ≡ None
