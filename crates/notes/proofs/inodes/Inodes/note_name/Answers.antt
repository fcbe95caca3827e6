use Rattle.std.proofs.Common.{◌≡◌, sym, subst, Some}
use Rattle.notes.specs.Patches.{kept_at}
use Rattle.notes.specs.Notes.{At, IsNamed, SameInodes}
use Rattle.notes.proofs.InodeLemmas.{put_back, same_back, same_change, some_kept}
use Rattle.notes.proofs.Outcomes.{err_so, ok_so}
use Rattle.notes.proofs.inodes.Inodes.note_name.Goals as goal

pub returns-clause-ok : goal.returns-clause-ok
returns-clause-ok c =
    let es = c.self.inside.each.entries in
    let was : kept_at es c.args.dir ≡ Some c.in-Some.change.now = sym c.in-Some.ensures.value in
    ok_so c.note_name.result
    (λ h. subst (λ es. At c.args.dir (IsNamed c.args.name c.args.given) es (c.get_mut.follows.lender c.note_name.new.self).entries) c.self.view_is
    (put_back c.args.dir c.note_name.new.self es (c.get_mut.follows.lender c.note_name.new.self).entries
    ((c.get_mut.follows.holds c.note_name.new.self).3 (some_kept (kept_at es c.args.dir) c.in-Some.change.now was)).0
    c.in-Some.change.now (IsNamed c.args.name c.args.given) was h))
    c.note_name.ensures.ok

pub returns-clause-err : goal.returns-clause-err
returns-clause-err c =
    let es = c.self.inside.each.entries in
    let was : kept_at es c.args.dir ≡ Some c.in-Some.change.now = sym c.in-Some.ensures.value in
    err_so c.note_name.result
    (λ h. subst (λ es. SameInodes es (c.get_mut.follows.lender c.note_name.new.self).entries) c.self.view_is
    (same_back c.args.dir c.note_name.new.self es (c.get_mut.follows.lender c.note_name.new.self).entries
    ((c.get_mut.follows.holds c.note_name.new.self).3 (some_kept (kept_at es c.args.dir) c.in-Some.change.now was)).0
    (Some c.in-Some.change.now) was (same_change c.in-Some.change.now c.note_name.new.self h)))
    c.note_name.ensures.err
