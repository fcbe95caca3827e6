use Rattle.std.proofs.Common.{◌≡◌, ℕ, ◌<◌, List, Option, ap, sym, subst, Some, ◌∙◌}
use Rattle.notes.specs.declared.change.InodeChange.{InodeChange}
use Rattle.notes.specs.Patches.{kept_at, net_of}
use Rattle.notes.specs.Notes.{At, IsTakenBack}
use Rattle.notes.proofs.InodeLemmas.{put_back, some_kept}
use Rattle.notes.proofs.inodes.Inodes.take_back.Goals as goal

pub take_back-requires : goal.take_back-requires
take_back-requires c =
    let was : kept_at c.self.inside.each.entries c.args.dir ≡ Some c.in-Some.change.now = sym c.in-Some.ensures.value in
    subst (λ (o : Option InodeChange). 0 < (net_of o).promised)
    (ap (λ (es : List (ℕ × InodeChange)). kept_at es c.args.dir) (sym c.self.view_is) ∙ was) c.requires.room

pub returns : goal.returns
returns c =
    let es = c.self.inside.each.entries in
    let was : kept_at es c.args.dir ≡ Some c.in-Some.change.now = sym c.in-Some.ensures.value in
    subst (λ es. At c.args.dir (IsTakenBack c.args.name.now c.args.former) es (c.get_mut.follows.lender c.take_back.new.self).entries) c.self.view_is
    (put_back c.args.dir c.take_back.new.self es (c.get_mut.follows.lender c.take_back.new.self).entries
    ((c.get_mut.follows.holds c.take_back.new.self).3 (some_kept (kept_at es c.args.dir) c.in-Some.change.now was)).0
    c.in-Some.change.now (IsTakenBack c.args.name.now c.args.former) was c.take_back.ensures)
