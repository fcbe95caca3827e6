use Rattle.std.proofs.Common.{◌≡◌, ◌+◌, ◌<◌, ◌≤◌, ℕ, List, None, Some, length, arith, sym, subst, ap, ◌∙◌}
use Rattle.std.proofs.lemmas.List.{get_or_read}
use Rattle.model.specs.State.{Kernel}
use Rattle.model.specs.Changes.{Edit, Set_offset, applied, news, tidy}
use Rattle.call_laws.specs.Fits.{Fits}
use Rattle.shadow.specs.Claims.{KeepsMore, claimed_by_one}
use Rattle.shadow.specs.Committed.{Committed}
use Rattle.shadow.specs.Stored.{committed_of}
use Rattle.notes.specs.Steps.{IsLast, new_in}
use Rattle.notes.proofs.Laws.{ok_so}
use Rattle.shadow.proofs.shared.SoundnessLemmas.{less_of}
use Rattle.shadow.proofs.edits.Offsets.{moving_kept, moving_sound, moving_state}
use Rattle.shadow.proofs.edits.UnusedNumbers.{same_slotting, same_opening}
use Rattle.shadow.proofs.stable.Stable.perform_last.Goals as goal
use Rattle.shadow.proofs.stable.Stable.perform_last.Goals.{in-Some-1, in-None-1}

pub invariant_of-self-in-SetOffset-2 : goal.invariant_of-self-in-SetOffset-2
invariant_of-self-in-SetOffset-2 c = moving_sound c.self.inside.processes c.self.inside.store c.args.self.now
    c.self.view_is c.args.chosen.now c.in-SetOffset.description c.in-SetOffset.offset
    c.self.invariant
    (subst (Fits c.args.chosen.now c.args.self.now.state) c.in-SetOffset.is c.requires.fits)
    c.set_offset.new.self c.set_offset.ensures.moved

-- what is left is the same whether there was room or not
joined : (c : goal.Joined-room) → c.match-room.self ≡ committed_of c.self.inside.processes c.set_offset.new.self
joined c = elim c.match-room.branch [ in-Some-1 w ↦ w.self-is | in-None-1 w ↦ w.self-is ]

pub returns-in-SetOffset-clause-state : goal.returns-in-SetOffset-clause-state
returns-in-SetOffset-clause-state c =
    ap (λ (v : Committed). v.state) (joined c)
    ∙ moving_state c.self.inside.processes c.self.inside.store c.args.self.now c.self.view_is
    c.args.chosen.now c.in-SetOffset.description c.in-SetOffset.offset c.self.invariant
    (subst (Fits c.args.chosen.now c.args.self.now.state) c.in-SetOffset.is c.requires.fits)
    c.set_offset.new.self c.set_offset.ensures.moved
    ∙ ap (λ (e : Edit). tidy (applied c.args.chosen.now e c.args.self.now.state))
    (sym c.in-SetOffset.is)

pub returns-in-SetOffset-clause-kept : goal.returns-in-SetOffset-clause-kept
returns-in-SetOffset-clause-kept c =
    let ps = c.self.inside.processes in
    subst (λ (v : Committed). KeepsMore v c.args.self.now (λ claim. claimed_by_one claim c.args.chosen.now c.args.edit.now)) (sym (joined c))
    (subst (λ (e : Edit). KeepsMore (committed_of ps c.set_offset.new.self) c.args.self.now
    (λ claim. claimed_by_one claim c.args.chosen.now e)) (sym c.in-SetOffset.is)
    (less_of ps ps c.self.inside.store c.args.self.now c.self.view_is c.set_offset.new.self
    (λ claim. claimed_by_one claim c.args.chosen.now
    (Set_offset c.in-SetOffset.description c.in-SetOffset.offset))
    (moving_kept ps c.self.inside.store c.args.self.now c.self.view_is c.args.chosen.now
    c.in-SetOffset.description c.in-SetOffset.offset c.self.invariant
    (subst (Fits c.args.chosen.now c.args.self.now.state) c.in-SetOffset.is c.requires.fits)
    c.set_offset.new.self c.set_offset.ensures.moved)))

pub returns-in-OpenInode-clause-state : goal.returns-in-OpenInode-clause-state
returns-in-OpenInode-clause-state c =
    let chosen : List ℕ = c.args.chosen.now in
    let last = subst (λ (e : Edit). (m : ℕ) × IsLast m e × (m + news e ≤ length chosen))
    c.in-OpenInode.is c.requires.last in
    let here : c.in-OpenInode.index ≡ last.0 = last.1.0 in
    let low : c.in-OpenInode.index < length chosen = omega (arith, here, last.2) in
    let at : c.index-chosen-index.result ≡ new_in chosen c.in-OpenInode.index =
    get_or_read chosen c.in-OpenInode.index c.index-chosen-index.result low
    c.index-chosen-index.is 0 in
    ok_so c.open_inode.result (λ h. h
    ∙ ap (λ (k : Kernel). tidy k)
    (same_opening chosen c.in-OpenInode.index c.in-OpenInode.inode c.in-OpenInode.mode
    c.in-OpenInode.process c.in-OpenInode.descriptor c.index-chosen-index.result c.number-inode.result at
    c.number-inode.ensures c.args.self.now.state)
    ∙ ap (λ (e : Edit). tidy (applied chosen e c.args.self.now.state)) (sym c.in-OpenInode.is))
    c.open_inode.ensures.state

pub reslot-requires-clause-fits : goal.reslot-requires-clause-fits
reslot-requires-clause-fits c = (c.in-ShareSlot.pipes, subst (Fits c.args.chosen.now c.args.self.now.state) c.in-ShareSlot.is c.requires.fits)

pub returns-in-ShareSlot-clause-state : goal.returns-in-ShareSlot-clause-state
returns-in-ShareSlot-clause-state c =
    ok_so c.reslot.result (λ h. h c.in-ShareSlot.pipes
    (subst (Fits c.args.chosen.now c.args.self.now.state) c.in-ShareSlot.is c.requires.fits)
    ∙ ap (λ (k : Kernel). tidy k)
    (same_slotting c.args.chosen.now c.args.self.now.state (Some c.in-ShareSlot.description) c.in-ShareSlot.process c.in-ShareSlot.descriptor
    c.in-ShareSlot.pipes)
    ∙ ap (λ (e : Edit). tidy (applied c.args.chosen.now e c.args.self.now.state))
    (sym c.in-ShareSlot.is)) c.reslot.ensures.state

pub reslot-requires-in-ClearSlot-clause-fits : goal.reslot-requires-in-ClearSlot-clause-fits
reslot-requires-in-ClearSlot-clause-fits c = (c.in-ClearSlot.pipes, subst (Fits c.args.chosen.now c.args.self.now.state) c.in-ClearSlot.is c.requires.fits)

pub returns-in-ClearSlot-clause-state : goal.returns-in-ClearSlot-clause-state
returns-in-ClearSlot-clause-state c =
    ok_so c.reslot-in-ClearSlot.result (λ h. h c.in-ClearSlot.pipes
    (subst (Fits c.args.chosen.now c.args.self.now.state) c.in-ClearSlot.is c.requires.fits)
    ∙ ap (λ (k : Kernel). tidy k)
    (same_slotting c.args.chosen.now c.args.self.now.state None c.in-ClearSlot.process c.in-ClearSlot.descriptor
    c.in-ClearSlot.pipes)
    ∙ ap (λ (e : Edit). tidy (applied c.args.chosen.now e c.args.self.now.state))
    (sym c.in-ClearSlot.is)) c.reslot-in-ClearSlot.ensures.state
