use Rattle.std.proofs.Common.{ℕ, nat_cmp, sym, ap₂, ◌∙◌, arith, inl, inr}
use Rattle.model.specs.FiniteMap.{FinMap, get}
use Rattle.fdtable.specs.Patches.{Given, or_before}
use Rattle.fdtable.proofs.Patched.{laid_either}
use Rattle.fdtable.proofs.patch.SlotPatch.end_over.Goals as goal

pub returns : goal.returns
returns c f some =
    elim (laid_either c.self.inside.given c.self.inside.closed.items c.self.invariant c.table.inside.pages.slots f
    (λ none. some (sym (ap₂ (λ (m : Given) (t : FinMap nat_cmp ℕ). or_before (get m f) (get t f)) c.self.view_is c.table.view_is) ∙ none))) [
      | inl given ↦ (let low = c.end.ensures.open f given in omega (arith, low, c.max.ensures))
      | inr before ↦ (let low = c.end-2.ensures.open f before in omega (arith, low, c.max.ensures))
    ]
