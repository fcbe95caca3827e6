use Rattle.std.proofs.Common.{◌≡◌, ap, subst, ◌∙◌}
use Rattle.view_times.specs.Kept.{Kept, known}
use Rattle.view_times.specs.Known.{freed}
use Rattle.view_times.proofs.After.{freed_places, kept_of, known_freed}
use Rattle.view_times.proofs.view_times.ViewTimes.free.Goals as goal

pub invariant_of-self : goal.invariant_of-self
invariant_of-self c =
    freed_places c.self.inside.everybody c.remove.new.self c.self.inside.views c.forget.new.self c.number_of-number.result c.remove.ensures.rows c.forget.ensures.notes c.self.invariant

pub returns-clause-known : goal.returns-clause-known
returns-clause-known c =
    subst (λ (k : Kept). known (kept_of c.remove.new.self c.forget.new.self) ≡ freed (known k) c.args.inode) c.self.view_is
    (known_freed c.self.inside.everybody c.remove.new.self c.self.inside.views c.forget.new.self c.number_of-number.result c.remove.ensures.rows c.forget.ensures.notes
    ∙ ap (freed (known (kept_of c.self.inside.everybody c.self.inside.views))) c.number_of-number.ensures)
