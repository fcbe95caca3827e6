use Rattle.std.proofs.Common.{ℕ, nat_cmp, subst}
use Rattle.model.specs.FiniteMap.{FinMap, entries}
use Rattle.fdtable.specs.Lowest.{IsLowest}
use Rattle.fdtable.specs.Patches.{Given}
use Rattle.notes.specs.Patches.{kept_at, slots_over}
use Rattle.notes.proofs.SlotLemmas.{laid_slots, over_laid}
use Rattle.notes.proofs.slots.Slots.lowest_over.Goals as goal

pub returns-in-Some : goal.returns-in-Some
returns-in-Some c = λ o of.
    let m : Given = c.in-Some.patch.now in
    let laid : FinMap nat_cmp ℕ = slots_over (entries m) c.args.stored.now in
    subst (λ (table : FinMap nat_cmp ℕ). IsLowest table c.args.first c.args.limit c.lowest_over.result)
    (laid_slots (kept_at c.args.self.now c.args.pid) m c.args.stored.now laid c.in-Some.ensures (over_laid m c.args.stored.now) o of)
    (c.lowest_over.ensures laid (over_laid m c.args.stored.now))
