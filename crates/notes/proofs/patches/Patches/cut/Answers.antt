use Rattle.std.proofs.Common.{[], refl, subst}
use Rattle.model.specs.Changes.{Cut}
use Rattle.notes.specs.Patches.{Patches}
use Rattle.notes.specs.Steps.{TakesIn}
use Rattle.notes.proofs.InodeNotes.{only_inodes, same_then_takes}
use Rattle.notes.proofs.FileEdits.{cut_takes}
use Rattle.notes.proofs.patches.Patches.cut.Goals as goal

pub returns-clause-ok : goal.returns-clause-ok
returns-clause-ok c before =
    let was = c.self.inside in
    let old : Patches = record { inodes = was.inodes; rights = was.rights; openings = was.openings; slots = was.slots; unnamed_inodes = was.unnamed_inodes.items } in
    let mid : Patches = record old { inodes = c.make_place.new.self } in
    let new : Patches = record old { inodes = c.cut.new.self } in
    subst (λ (p : Patches). TakesIn [] (Cut c.args.file before c.args.after) p new) c.self.view_is
    (same_then_takes [] (Cut c.args.file before c.args.after) old mid new
    (only_inodes old mid c.make_place.ensures.same refl refl refl refl)
    (cut_takes c.args.file before c.args.after mid new c.cut.ensures refl refl refl refl))
