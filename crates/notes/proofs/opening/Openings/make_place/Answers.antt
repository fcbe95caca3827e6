use Rattle.std.proofs.Common.{rules, ◌≡◌, None, subst}
use Rattle.notes.specs.Patches.{kept_at}
use Rattle.notes.specs.Openings.{SameOpenings}
use Rattle.notes.proofs.DescriptionLemmas.{Kept_openings, place_at}
use Rattle.notes.proofs.opening.Openings.make_place.Goals as goal

pub returns-clause-same : goal.returns-clause-same
returns-clause-same c =
    let none : kept_at c.self.inside.each.entries c.args.num ≡ None = search rules in
    subst (λ (es : Kept_openings). SameOpenings es c.insert.new.self.entries) c.self.view_is
    (place_at c.args.num c.self.inside.each.entries c.insert.new.self.entries none c.in_ok-insert.ensures.updates.0)
