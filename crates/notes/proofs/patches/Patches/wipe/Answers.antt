use Rattle.std.proofs.Common.{[], refl, subst}
use Rattle.model.specs.Changes.{Wipe}
use Rattle.notes.specs.Patches.{Patches}
use Rattle.notes.specs.Steps.{TakesIn}
use Rattle.notes.proofs.InodeNotes.{only_inodes, same_then_takes}
use Rattle.notes.proofs.Outcomes.{ok_so}
use Rattle.notes.proofs.FileEdits.{wipe_takes}
use Rattle.notes.proofs.patches.Patches.wipe.Goals as goal

pub returns-clause-ok : goal.returns-clause-ok
returns-clause-ok c =
    let was = c.self.inside in
    let old : Patches = record { inodes = was.inodes; rights = was.rights; openings = was.openings; slots = was.slots; unnamed_inodes = was.unnamed_inodes.items } in
    let mid : Patches = record old { inodes = c.make_place.new.self } in
    let new : Patches = record old { inodes = c.wipe.new.self } in
    ok_so c.wipe.result
    (λ noted. subst (λ (p : Patches). TakesIn [] (Wipe c.args.file c.args.offset c.args.count) p new) c.self.view_is
    (same_then_takes [] (Wipe c.args.file c.args.offset c.args.count) old mid new
    (only_inodes old mid c.make_place.ensures.same refl refl refl refl)
    (wipe_takes c.args.file c.args.offset c.args.count mid new noted refl refl refl refl)))
    c.wipe.ensures.ok
