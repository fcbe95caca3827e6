use Rattle.std.proofs.Common.{sym, ap, ◌∙◌, arith}
use Rattle.model.specs.FiniteMap.{get}
use Rattle.fdtable.specs.Patches.{Given}
use Rattle.fdtable.proofs.Patched.{noted_room}
use Rattle.fdtable.proofs.patch.SlotPatch.pages.Goals as goal

pub returns-clause-noted : goal.returns-clause-noted
returns-clause-noted c f some =
    let place = noted_room c.self.inside.given c.self.inside.closed.items c.self.invariant f (λ none. some (ap (λ (m : Given). get m f) (sym c.self.view_is) ∙ none)) in
    omega (arith, place.1, c.self.inside.closed.ok.0)

pub returns-clause-small : goal.returns-clause-small
returns-clause-small c = omega (arith, c.self.invariant.few, c.self.inside.closed.ok.0)
