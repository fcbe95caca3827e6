use Rattle.std.proofs.Common.{refl, subst}
use Rattle.model.specs.Changes.{Swap}
use Rattle.notes.specs.Patches.{Patches}
use Rattle.notes.specs.Steps.{TakesIn}
use Rattle.notes.proofs.InodeNotes.{only_inodes, same_inodes, same_then_takes}
use Rattle.notes.proofs.Outcomes.{ok_so}
use Rattle.notes.proofs.NameEdits.{swapping_takes}
use Rattle.notes.proofs.patches.Patches.swap.Goals as goal

pub returns-clause-ok : goal.returns-clause-ok
returns-clause-ok c =
    let was = c.self.inside in
    let old : Patches = record { inodes = was.inodes; rights = was.rights; openings = was.openings; slots = was.slots; unnamed_inodes = was.unnamed_inodes.items } in
    let mid : Patches = record old { inodes = c.make_place-2.new.self } in
    let new : Patches = record old { inodes = c.note_swapped.new.self } in
    let edit = Swap c.args.first c.args.first_name.now c.args.first_inode c.args.second c.args.second_name c.args.second_inode in
    ok_so c.note_swapped.result
    (λ swapped chosen. subst (λ (p : Patches). TakesIn chosen edit p new) c.self.view_is
    (same_then_takes chosen edit old mid new
    (only_inodes old mid (same_inodes was.inodes c.make_place.new.self c.make_place-2.new.self c.make_place.ensures.same c.make_place-2.ensures.same) refl refl refl refl)
    (swapping_takes chosen c.args.first c.args.first_name.now c.args.first_inode c.args.second c.args.second_name c.args.second_inode mid new swapped refl refl refl refl)))
    c.note_swapped.ensures.ok
