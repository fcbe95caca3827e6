use Rattle.std.proofs.Common.{◌≡◌, ℕ, List, None, sym, subst, ap, ◌∙◌}
use Rattle.notes.specs.declared.change.InodeChange.{InodeChange}
use Rattle.notes.specs.Patches.{kept_at}
use Rattle.notes.specs.Notes.{SameInodes}
use Rattle.notes.proofs.InodeLemmas.{none_kept, same_back}
use Rattle.notes.proofs.inodes.Inodes.make_place.Goals as goal

pub returns-clause-same : goal.returns-clause-same
returns-clause-same c =
    let es = c.self.inside.each.entries in
    let was : kept_at c.args.self.now c.args.num ≡ None = none_kept c.get.result (kept_at c.args.self.now c.args.num) c.get.ensures (sym c.is_some.ensures ∙ c.if-is_some.false) in
    subst (λ es. SameInodes es c.insert.new.self.entries) c.self.view_is
    (same_back c.args.num c.new.result es c.insert.new.self.entries c.in_ok-insert.ensures.updates.0
    None (ap (λ (es : List (ℕ × InodeChange)). kept_at es c.args.num) c.self.view_is ∙ was) c.new.ensures)
