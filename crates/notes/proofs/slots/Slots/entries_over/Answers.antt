use Rattle.std.proofs.Common.{◌∙◌, ℕ, nat_cmp, ap}
use Rattle.model.specs.FiniteMap.{FinMap, entries}
use Rattle.fdtable.specs.Patches.{Given}
use Rattle.notes.specs.Patches.{kept_at, slots_over}
use Rattle.notes.proofs.Outcomes.{if_so}
use Rattle.notes.proofs.SlotLemmas.{laid_slots, over_laid}
use Rattle.notes.proofs.slots.Slots.entries_over.Goals as goal

pub returns-in-Some : goal.returns-in-Some
returns-in-Some c =
    let m : Given = c.in-Some.patch.now in
    let laid : FinMap nat_cmp ℕ = slots_over (entries m) c.args.stored.now in
    if_so c.entries_over.result _ _ (λ list is o of.
    is laid (over_laid m c.args.stored.now)
    ∙ ap (λ (table : FinMap nat_cmp ℕ). entries table)
    (laid_slots (kept_at c.args.self.now c.args.pid) m c.args.stored.now laid c.in-Some.ensures (over_laid m c.args.stored.now) o of))
    c.entries_over.ensures
