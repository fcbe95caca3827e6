use Rattle.std.proofs.Common.{◌≡◌, ℕ, ◌+◌, ◌<◌, ◌^◌, List, Option, ap, sym, subst, Some, ◌∙◌}
use Rattle.notes.specs.declared.change.InodeChange.{InodeChange}
use Rattle.notes.specs.Patches.{kept_at, net_of}
use Rattle.notes.specs.Notes.{At, IsGiven}
use Rattle.notes.proofs.InodeLemmas.{put_back, some_kept}
use Rattle.notes.proofs.inodes.Inodes.note_named.Goals as goal

pub note_named-requires : goal.note_named-requires
note_named-requires c =
    let was : kept_at c.self.inside.each.entries c.args.num ≡ Some c.in-Some.change.now = sym c.in-Some.ensures.value in
    subst (λ (o : Option InodeChange). (net_of o).named + 1 < 2 ^ 64)
    (ap (λ (es : List (ℕ × InodeChange)). kept_at es c.args.num) (sym c.self.view_is) ∙ was) c.requires.count

pub returns : goal.returns
returns c =
    let es = c.self.inside.each.entries in
    let was : kept_at es c.args.num ≡ Some c.in-Some.change.now = sym c.in-Some.ensures.value in
    subst (λ es. At c.args.num IsGiven es (c.get_mut.follows.lender c.note_named.new.self).entries) c.self.view_is
    (put_back c.args.num c.note_named.new.self es (c.get_mut.follows.lender c.note_named.new.self).entries
    ((c.get_mut.follows.holds c.note_named.new.self).3 (some_kept (kept_at es c.args.num) c.in-Some.change.now was)).0
    c.in-Some.change.now IsGiven was c.note_named.ensures)
