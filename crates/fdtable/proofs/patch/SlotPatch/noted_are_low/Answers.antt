use Rattle.std.proofs.Common.{sym, ap, ◌∙◌}
use Rattle.model.specs.FiniteMap.{get}
use Rattle.fdtable.specs.Patches.{Given}
use Rattle.fdtable.proofs.Patched.{noted_low}
use Rattle.fdtable.proofs.patch.SlotPatch.noted_are_low.Goals as goal

pub returns : goal.returns
returns c f some = noted_low c.self.inside.given c.self.inside.closed.items c.self.invariant f (λ none. some (ap (λ (m : Given). get m f) (sym c.self.view_is) ∙ none))
