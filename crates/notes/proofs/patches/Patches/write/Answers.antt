use Rattle.std.proofs.Common.{ℕ, List, [], refl, subst}
use Rattle.model.specs.Changes.{Put_bytes}
use Rattle.notes.specs.Notes.{At, IsWritten}
use Rattle.notes.specs.Patches.{Patches}
use Rattle.notes.specs.Steps.{TakesIn}
use Rattle.notes.proofs.InodeNotes.{only_inodes, same_then_takes}
use Rattle.notes.proofs.Outcomes.{ok_so}
use Rattle.notes.proofs.FileEdits.{put_takes}
use Rattle.notes.proofs.patches.Patches.write.Goals as goal

pub returns-clause-ok : goal.returns-clause-ok
returns-clause-ok c =
    let was = c.self.inside in
    let old : Patches = record { inodes = was.inodes; rights = was.rights; openings = was.openings; slots = was.slots; unnamed_inodes = was.unnamed_inodes.items } in
    let mid : Patches = record old { inodes = c.make_place.new.self } in
    let new : Patches = record old { inodes = c.write.new.self } in
    ok_so c.write.result
    (λ noted before. subst (λ (p : Patches). TakesIn [] (Put_bytes c.args.file c.args.offset c.args.bytes.now before) p new) c.self.view_is
    (same_then_takes [] (Put_bytes c.args.file c.args.offset c.args.bytes.now before) old mid new
    (only_inodes old mid c.make_place.ensures.same refl refl refl refl)
    (put_takes c.args.file c.args.offset c.args.bytes.now before mid new
    (subst (λ (bytes : List ℕ). At c.args.file (IsWritten c.args.offset bytes) mid.inodes new.inodes) c.as_slice.ensures noted)
    refl refl refl refl)))
    c.write.ensures.ok
