use Rattle.std.proofs.Common.{◌≡◌, sym, subst, Some}
use Rattle.notes.specs.Patches.{kept_at}
use Rattle.notes.specs.Notes.{At, IsPiped}
use Rattle.notes.proofs.InodeLemmas.{put_back, some_kept}
use Rattle.notes.proofs.inodes.Inodes.note_pipe.Goals as goal

pub returns : goal.returns
returns c =
    let es = c.self.inside.each.entries in
    let was : kept_at es c.args.num ≡ Some c.in-Some.change.now = sym c.in-Some.ensures.value in
    subst (λ es. At c.args.num (IsPiped c.args.pipe.reader c.args.pipe.writer) es (c.get_mut.follows.lender c.note_pipe.new.self).entries) c.self.view_is
    (put_back c.args.num c.note_pipe.new.self es (c.get_mut.follows.lender c.note_pipe.new.self).entries
    ((c.get_mut.follows.holds c.note_pipe.new.self).3 (some_kept (kept_at es c.args.num) c.in-Some.change.now was)).0
    c.in-Some.change.now (IsPiped c.args.pipe.reader c.args.pipe.writer) was c.note_pipe.ensures)
