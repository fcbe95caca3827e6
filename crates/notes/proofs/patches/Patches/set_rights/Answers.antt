use Rattle.std.proofs.Common.{subst}
use Rattle.model.specs.Changes.{Set_rights}
use Rattle.notes.specs.Notes.{SamePatches}
use Rattle.notes.specs.Patches.{Patches}
use Rattle.notes.specs.Steps.{TakesIn}
use Rattle.notes.proofs.RightsEdits.{setting_takes, unset_same}
use Rattle.notes.proofs.Outcomes.{err_so, ok_so}
use Rattle.notes.proofs.patches.Patches.set_rights.Goals as goal

pub returns-clause-ok : goal.returns-clause-ok
returns-clause-ok c =
    let was = c.self.inside in
    let old : Patches = record { inodes = was.inodes; rights = was.rights; openings = was.openings; slots = was.slots; unnamed_inodes = was.unnamed_inodes.items } in
    let new : Patches = record old { rights = c.set.new.self } in
    ok_so c.set.result
    (λ set chosen. subst (λ (p : Patches). TakesIn chosen (Set_rights c.args.inode c.args.rights) p new) c.self.view_is
    (setting_takes chosen c.args.inode c.args.rights old c.set.new.self set))
    c.set.ensures.ok

pub returns-clause-err : goal.returns-clause-err
returns-clause-err c =
    let was = c.self.inside in
    let old : Patches = record { inodes = was.inodes; rights = was.rights; openings = was.openings; slots = was.slots; unnamed_inodes = was.unnamed_inodes.items } in
    let new : Patches = record old { rights = c.set.new.self } in
    err_so c.set.result
    (λ same. subst (λ (p : Patches). SamePatches p new) c.self.view_is (unset_same old c.set.new.self same))
    c.set.ensures.err
