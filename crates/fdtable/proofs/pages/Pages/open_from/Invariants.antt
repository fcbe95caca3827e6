-- None is open from the first on below this page.
use Rattle.std.proofs.Common.{◌≡◌, ℕ, ◌*◌, ◌<◌, ◌≤◌, None}
use Rattle.model.specs.FiniteMap.{get}
use Rattle.fdtable.proofs.pages.Pages.open_from.Given as goal

abbrev pub invariant-loop-index : goal.invariant-loop-index
invariant-loop-index l = (f : ℕ) → l.first ≤ f → f < 64 * l.index → get l.self.slots f ≡ None
