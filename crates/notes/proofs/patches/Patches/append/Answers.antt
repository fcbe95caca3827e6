use Rattle.std.proofs.Common.{ℕ, List, [], refl, subst}
use Rattle.model.specs.Changes.{Append}
use Rattle.notes.specs.Notes.{At, IsAppended}
use Rattle.notes.specs.Patches.{Patches}
use Rattle.notes.specs.Steps.{TakesIn}
use Rattle.notes.proofs.InodeNotes.{only_inodes, same_then_takes}
use Rattle.notes.proofs.Outcomes.{ok_so}
use Rattle.notes.proofs.PipeEdits.{append_takes}
use Rattle.notes.proofs.patches.Patches.append.Goals as goal

pub returns-clause-ok : goal.returns-clause-ok
returns-clause-ok c =
    let was = c.self.inside in
    let old : Patches = record { inodes = was.inodes; rights = was.rights; openings = was.openings; slots = was.slots; unnamed_inodes = was.unnamed_inodes.items } in
    let mid : Patches = record old { inodes = c.make_place.new.self } in
    let new : Patches = record old { inodes = c.append.new.self } in
    let edit = Append c.args.pipe c.args.bytes.now in
    ok_so c.append.result
    (λ noted. subst (λ (p : Patches). TakesIn [] edit p new) c.self.view_is
    (same_then_takes [] edit old mid new
    (only_inodes old mid c.make_place.ensures.same refl refl refl refl)
    (append_takes c.args.pipe c.args.bytes.now mid new
    (subst (λ (bytes : List ℕ). At c.args.pipe (IsAppended bytes) mid.inodes new.inodes) c.as_slice.ensures noted)
    refl refl refl refl)))
    c.append.ensures.ok
