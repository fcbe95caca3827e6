use Rattle.std.proofs.Common.{[], ◌∷◌, refl, subst}
use Rattle.notes.specs.Patches.{Patches}
use Rattle.notes.specs.Steps.{TakesIn, making}
use Rattle.notes.proofs.InodeNotes.{only_inodes, same_inodes, same_then_takes}
use Rattle.notes.proofs.NameEdits.{making_takes}
use Rattle.notes.proofs.patches.Patches.make.Goals as goal

pub returns-clause-ok : goal.returns-clause-ok
returns-clause-ok c =
    let was = c.self.inside in
    let old : Patches = record { inodes = was.inodes; rights = was.rights; openings = was.openings; slots = was.slots; unnamed_inodes = was.unnamed_inodes.items } in
    let mid : Patches = record old { inodes = c.make_place.new.self } in
    let new : Patches = record old { inodes = c.note_made.new.self } in
    let edit = making c.args.what c.args.parent c.args.name in
    subst (λ (p : Patches). TakesIn (c.args.num ∷ []) edit p new) c.self.view_is
    (same_then_takes (c.args.num ∷ []) edit old mid new
    (only_inodes old mid (same_inodes was.inodes c.make_named.new.self c.make_place.new.self c.make_named.ensures.same c.make_place.ensures.same) refl refl refl refl)
    (making_takes c.args.what c.args.parent c.args.num c.args.name c.note_name.new.self mid new c.requires c.in_ok-note_name.ensures.ok c.note_made.ensures refl refl refl refl))
