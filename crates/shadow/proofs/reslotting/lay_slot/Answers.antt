use Rattle.std.proofs.Common.{refl, sym, subst}
use Rattle.shadow.specs.Laid.{IsSlotted}
use Rattle.shadow.specs.Stored.{Processes}
use Rattle.shadow.proofs.shared.ProcessLemmas.{IsProcess, is_process}
use Rattle.shadow.proofs.edits.SlotChanges.{slotted_by}
use Rattle.shadow.proofs.reslotting.lay_slot.Goals as goal

pub returns-clause-laid : goal.returns-clause-laid
returns-clause-laid c =
    let ps : Processes = c.args.processes.now in
    let place : IsProcess ps c.args.pid = is_process ps c.args.pid c.requires.pid in
    subst (λ (qs : Processes). IsSlotted c.args.pid c.args.fd c.args.given ps qs c.args.store.now
    c.count_slot.new.store) (sym c.in_ok-former.ensures.slot)
    (slotted_by ps c.args.pid c.args.fd c.args.given c.in_ok-former.former _ c.args.store.now
    c.count_slot.ensures.0 c.count_slot.new.store place.some place.low c.requires.fd
    c.in_ok-former.ensures.few c.in_ok-former.ensures.former refl c.count_slot.ensures.1
    c.count_slot.ensures.2)
