use Rattle.std.proofs.Common.{◌≡◌, sym, subst, Some}
use Rattle.notes.specs.Patches.{kept_at}
use Rattle.notes.specs.Notes.{At, IsCut}
use Rattle.notes.proofs.InodeLemmas.{put_back, some_kept}
use Rattle.notes.proofs.inodes.Inodes.cut.Goals as goal

pub returns : goal.returns
returns c =
    let es = c.self.inside.each.entries in
    let was : kept_at es c.args.file ≡ Some c.in-Some.change.now = sym c.in-Some.ensures.value in
    subst (λ es. At c.args.file (IsCut c.args.after) es (c.get_mut.follows.lender c.cut.new.self).entries) c.self.view_is
    (put_back c.args.file c.cut.new.self es (c.get_mut.follows.lender c.cut.new.self).entries
    ((c.get_mut.follows.holds c.cut.new.self).3 (some_kept (kept_at es c.args.file) c.in-Some.change.now was)).0
    c.in-Some.change.now (IsCut c.args.after) was c.cut.ensures)
