use Rattle.std.proofs.Common.{◌≡◌, ◌+◌, ◌<◌, ◌≤◌, ℕ, List, length, Some, arith, sym, subst, ap, ◌∙◌}
use Rattle.std.proofs.lemmas.List.{get_or_read}
use Rattle.model.specs.Changes.{Clear_slot, Share_slot, Edit, Open_inode, Set_offset, at_start, news, number}
use Rattle.notes.specs.Patches.{Patches}
use Rattle.notes.specs.Steps.{IsLast, TakesIn, new_in}
use Rattle.notes.specs.Openings.{AtOpening, AtSlots, IsOpened}
use Rattle.notes.proofs.Outcomes.{ok_so}
use Rattle.notes.proofs.OffsetEdits.{clearing_takes, moving_takes, opening_takes, sharing_takes}
use Rattle.notes.proofs.patches.Patches.note_last.Goals as goal
use Rattle.notes.proofs.patches.Patches.note_last.Goals.{in-Some-1, in-None-1}

pub returns-in-SetOffset-clause-ok : goal.returns-in-SetOffset-clause-ok
returns-in-SetOffset-clause-ok c =
    let was = c.self.inside in
    let old : Patches = record { inodes = was.inodes; rights = was.rights; openings = was.openings; slots = was.slots; unnamed_inodes = was.unnamed_inodes.items } in
    let new : Patches = record old { openings = c.move_to.new.self } in
    let takes : TakesIn c.args.chosen.now c.args.edit.now c.args.self.now new =
    subst (λ (e : Edit). TakesIn c.args.chosen.now e c.args.self.now new) (sym c.in-SetOffset.is)
    (subst (λ (p : Patches). TakesIn c.args.chosen.now (Set_offset c.in-SetOffset.description c.in-SetOffset.offset) p new) c.self.view_is
    (moving_takes c.args.chosen.now c.in-SetOffset.description c.in-SetOffset.offset old c.move_to.new.self c.move_to.ensures)) in
    elim c.match-place.branch [
      | in-Some-1 w ↦ subst (λ (p : Patches). TakesIn c.args.chosen.now c.args.edit.now c.args.self.now p) (sym w.self-is) takes
      | in-None-1 w ↦ subst (λ (p : Patches). TakesIn c.args.chosen.now c.args.edit.now c.args.self.now p) (sym w.self-is) takes
    ]

pub returns-in_ok-note-in-OpenInode-clause-ok : goal.returns-in_ok-note-in-OpenInode-clause-ok
returns-in_ok-note-in-OpenInode-clause-ok c =
    let was = c.self.inside in
    let old : Patches = record { inodes = was.inodes; rights = was.rights; openings = was.openings; slots = was.slots; unnamed_inodes = was.unnamed_inodes.items } in
    let new : Patches = record old { openings = c.open.new.self; slots = c.note.new.self } in
    let chosen : List ℕ = c.args.chosen.now in
    let last = subst (λ (e : Edit). (m : ℕ) × IsLast m e × (m + news e ≤ length chosen)) c.in-OpenInode.is c.requires.last in
    let here : c.in-OpenInode.index ≡ last.0 = last.1.0 in
    let low : c.in-OpenInode.index < length chosen = omega (arith, here, last.2) in
    let at : c.index-chosen-index.result ≡ new_in chosen c.in-OpenInode.index = get_or_read chosen c.in-OpenInode.index c.index-chosen-index.result low c.index-chosen-index.is 0 in
    let it : c.at_start-opened.result ≡ at_start (number chosen c.in-OpenInode.inode) c.in-OpenInode.mode = c.at_start-opened.ensures ∙ ap (λ n. at_start n c.in-OpenInode.mode) c.number.ensures in
    subst (λ (e : Edit). TakesIn chosen e c.args.self.now new) (sym c.in-OpenInode.is)
    (subst (λ (p : Patches). TakesIn chosen (Open_inode c.in-OpenInode.index c.in-OpenInode.inode c.in-OpenInode.mode c.in-OpenInode.process c.in-OpenInode.descriptor) p new) c.self.view_is
    (opening_takes chosen c.in-OpenInode.index c.in-OpenInode.inode c.in-OpenInode.mode c.in-OpenInode.process c.in-OpenInode.descriptor old c.open.new.self c.note.new.self
    (subst (λ m. AtOpening m (IsOpened (at_start (number chosen c.in-OpenInode.inode) c.in-OpenInode.mode)) was.openings c.open.new.self) at (subst (λ d. AtOpening c.index-chosen-index.result (IsOpened d) was.openings c.open.new.self) it c.open.ensures))
    (subst (λ m. AtSlots c.in-OpenInode.process c.in-OpenInode.descriptor (Some m) was.slots c.note.new.self) at c.in_ok-note-in-OpenInode.ensures.ok)))

pub returns-in-ClearSlot-clause-ok : goal.returns-in-ClearSlot-clause-ok
returns-in-ClearSlot-clause-ok c =
    let was = c.self.inside in
    let old : Patches = record { inodes = was.inodes; rights = was.rights; openings = was.openings; slots = was.slots; unnamed_inodes = was.unnamed_inodes.items } in
    let new : Patches = record old { slots = c.note-in-ClearSlot.new.self } in
    ok_so c.note-in-ClearSlot.result (λ takes.
    subst (λ (e : Edit). TakesIn c.args.chosen.now e c.args.self.now new) (sym c.in-ClearSlot.is)
    (subst (λ (p : Patches). TakesIn c.args.chosen.now (Clear_slot c.in-ClearSlot.process c.in-ClearSlot.descriptor c.in-ClearSlot.pipes) p new) c.self.view_is
    (clearing_takes c.args.chosen.now c.in-ClearSlot.process c.in-ClearSlot.descriptor c.in-ClearSlot.pipes old c.note-in-ClearSlot.new.self takes))) c.note-in-ClearSlot.ensures.ok

pub returns-in-ShareSlot-clause-ok : goal.returns-in-ShareSlot-clause-ok
returns-in-ShareSlot-clause-ok c =
    let was = c.self.inside in
    let old : Patches = record { inodes = was.inodes; rights = was.rights; openings = was.openings; slots = was.slots; unnamed_inodes = was.unnamed_inodes.items } in
    let new : Patches = record old { slots = c.note-in-ShareSlot.new.self } in
    ok_so c.note-in-ShareSlot.result (λ takes.
    subst (λ (e : Edit). TakesIn c.args.chosen.now e c.args.self.now new) (sym c.in-ShareSlot.is)
    (subst (λ (p : Patches). TakesIn c.args.chosen.now (Share_slot c.in-ShareSlot.process c.in-ShareSlot.descriptor c.in-ShareSlot.description c.in-ShareSlot.pipes) p new) c.self.view_is
    (sharing_takes c.args.chosen.now c.in-ShareSlot.process c.in-ShareSlot.descriptor c.in-ShareSlot.description c.in-ShareSlot.pipes old c.note-in-ShareSlot.new.self takes))) c.note-in-ShareSlot.ensures.ok
