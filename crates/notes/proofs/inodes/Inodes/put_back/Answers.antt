use Rattle.std.proofs.Common.{◌≡◌, sym, subst, Some}
use Rattle.notes.specs.Patches.{kept_at}
use Rattle.notes.specs.Notes.{At, IsPutBack}
use Rattle.notes.proofs.InodeLemmas.{put_back, some_kept}
use Rattle.notes.proofs.inodes.Inodes.put_back.Goals as goal

pub returns : goal.returns
returns c =
    let es = c.self.inside.each.entries in
    let was : kept_at es c.args.dir ≡ Some c.in-Some.change.now = sym c.in-Some.ensures.value in
    subst (λ es. At c.args.dir (IsPutBack c.args.name.now c.args.former) es (c.get_mut.follows.lender c.put_back.new.self).entries) c.self.view_is
    (put_back c.args.dir c.put_back.new.self es (c.get_mut.follows.lender c.put_back.new.self).entries
    ((c.get_mut.follows.holds c.put_back.new.self).3 (some_kept (kept_at es c.args.dir) c.in-Some.change.now was)).0
    c.in-Some.change.now (IsPutBack c.args.name.now c.args.former) was c.put_back.ensures)
