use Rattle.std.proofs.Common.{◌≢◌, None, Some, [], ◌∷◌, refl, sym, subst}
use Rattle.model.specs.FiniteMap.{get}
use Rattle.model.specs.State.{Description}
use Rattle.model.specs.Changes.{Open_inode, There, at_start}
use Rattle.shadow.specs.Claims.{claimed_by_one}
use Rattle.shadow.specs.Stored.{Processes, numbered}
use Rattle.notes.specs.declared.opening.Opening.TheVariants.{New}
use Rattle.shadow.specs.Laid.{IsReopened, IsSlotted}
use Rattle.shadow.proofs.shared.ProcessLemmas.{IsProcess, is_process}
use Rattle.shadow.proofs.shared.SoundnessLemmas.{less_of}
use Rattle.shadow.proofs.edits.OpenedInodes.{opening_kept, opening_process, opening_sound, opening_state}
use Rattle.shadow.proofs.edits.OpenedInodes.{opening_to_come}
use Rattle.shadow.proofs.edits.SlotChanges.{slotted_by}
use Rattle.shadow.proofs.stable.Stable.open_inode.Goals as goal

pub open-requires : goal.open-requires
open-requires c = opening_to_come c.self.inside.processes c.self.inside.store c.args.self.now
    c.self.view_is c.args.num c.args.inode c.args.mode c.args.pid c.args.fd c.self.invariant
    c.requires.fits c.requires.covers

pub reslot-requires-clause-pid : goal.reslot-requires-clause-pid
reslot-requires-clause-pid c =
    opening_process c.self.inside.processes c.self.inside.store c.args.self.now c.self.view_is
    c.args.num c.args.inode c.args.mode c.args.pid c.args.fd c.self.invariant c.requires.fits
    c.requires.covers

living : (c : goal.After-count_slot)
    → get (numbered c.self.inside.processes) c.args.pid ≢ None
living c =
    opening_process c.self.inside.processes c.self.inside.store c.args.self.now c.self.view_is
    c.args.num c.args.inode c.args.mode c.args.pid c.args.fd c.self.invariant c.requires.fits
    c.requires.covers

opened : (c : goal.After-count_slot)
    → IsReopened c.args.num (New (at_start c.args.inode c.args.mode)) c.self.inside.store
    c.open.new.store
opened c = subst (λ (it : Description).
    IsReopened c.args.num (New it) c.self.inside.store c.open.new.store) c.at_start.ensures
    c.open.ensures

-- the slot is given in the processes, and counted in the store
laid : (c : goal.After-count_slot) → IsSlotted c.args.pid c.args.fd (Some c.args.num)
    c.self.inside.processes c.reslot.new.self c.open.new.store c.count_slot.new.store
laid c =
    let ps : Processes = c.self.inside.processes in
    let place : IsProcess ps c.args.pid = is_process ps c.args.pid (living c) in
    subst (λ (qs : Processes). IsSlotted c.args.pid c.args.fd (Some c.args.num) ps qs
    c.open.new.store c.count_slot.new.store) (sym c.in_ok-former.ensures.slot)
    (slotted_by ps c.args.pid c.args.fd (Some c.args.num) c.in_ok-former.former _ c.open.new.store
    c.count_slot.ensures.0 c.count_slot.new.store place.some place.low c.requires.low
    c.in_ok-former.ensures.few c.in_ok-former.ensures.former refl c.count_slot.ensures.1
    c.count_slot.ensures.2)

pub invariant_of-self-2 : goal.invariant_of-self-2
invariant_of-self-2 c = opening_sound c.self.inside.processes c.self.inside.store
    c.args.self.now c.self.view_is c.args.num c.args.inode c.args.mode c.args.pid c.args.fd
    c.self.invariant c.requires.fits c.requires.covers
    c.reslot.new.self c.open.new.store c.count_slot.new.store (opened c) (laid c)

pub returns-clause-state : goal.returns-clause-state
returns-clause-state c =
    opening_state c.self.inside.processes c.self.inside.store c.args.self.now c.self.view_is
    c.args.num c.args.inode c.args.mode c.args.pid c.args.fd c.self.invariant c.requires.fits
    c.requires.covers
    c.reslot.new.self c.open.new.store c.count_slot.new.store (opened c) (laid c)

pub returns-clause-kept : goal.returns-clause-kept
returns-clause-kept c =
    less_of c.self.inside.processes c.reslot.new.self c.self.inside.store
    c.args.self.now c.self.view_is c.count_slot.new.store
    (λ claim. claimed_by_one claim (c.args.num ∷ [])
    (Open_inode 0 (There c.args.inode) c.args.mode c.args.pid c.args.fd))
    (opening_kept c.self.inside.processes c.self.inside.store c.args.self.now c.self.view_is
    c.args.num c.args.inode c.args.mode c.args.pid c.args.fd c.self.invariant c.requires.fits
    c.requires.covers
    c.reslot.new.self c.open.new.store c.count_slot.new.store (opened c) (laid c))
