use Rattle.std.proofs.Common.{refl, subst}
use Rattle.model.specs.Changes.{Name_file}
use Rattle.notes.specs.Patches.{Patches}
use Rattle.notes.specs.Steps.{TakesIn}
use Rattle.notes.proofs.InodeNotes.{only_inodes, same_inodes, same_then_takes}
use Rattle.notes.proofs.NameEdits.{linking_takes}
use Rattle.notes.proofs.patches.Patches.link.Goals as goal

pub returns-clause-ok : goal.returns-clause-ok
returns-clause-ok c chosen =
    let was = c.self.inside in
    let old : Patches = record { inodes = was.inodes; rights = was.rights; openings = was.openings; slots = was.slots; unnamed_inodes = was.unnamed_inodes.items } in
    let mid : Patches = record old { inodes = c.make_place.new.self } in
    let new : Patches = record old { inodes = c.note_named.new.self } in
    let edit = Name_file c.args.parent c.args.name c.args.file in
    subst (λ (p : Patches). TakesIn chosen edit p new) c.self.view_is
    (same_then_takes chosen edit old mid new
    (only_inodes old mid (same_inodes was.inodes c.make_named.new.self c.make_place.new.self c.make_named.ensures.same c.make_place.ensures.same) refl refl refl refl)
    (linking_takes chosen c.args.parent c.args.file c.args.name c.note_name.new.self mid new c.in_ok-note_name.ensures.ok c.note_named.ensures refl refl refl refl))
