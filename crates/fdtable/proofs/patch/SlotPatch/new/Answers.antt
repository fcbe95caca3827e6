use Rattle.std.proofs.Common.{◌≡◌, ℕ, List, sym, subst}
use Rattle.model.specs.FiniteMap as map
use Rattle.fdtable.specs.Patches.{IsPatch}
use Rattle.fdtable.proofs.Patched.{no_notes, no_patch, notes}
use Rattle.fdtable.proofs.patch.SlotPatch.new.Goals as goal

pub invariant_of-result : goal.invariant_of-result
invariant_of-result c = subst (IsPatch c.new.result) (sym c.new-2.ensures.items) (no_patch c.new.result c.new.ensures)

pub returns : goal.returns
returns c = subst (λ (ws : List ℕ). notes c.new.result ws ≡ map.empty) (sym c.new-2.ensures.items) (no_notes c.new.result c.new.ensures)
