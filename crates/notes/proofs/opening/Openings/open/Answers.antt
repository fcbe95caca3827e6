use Rattle.std.proofs.Common.{◌≡◌, Some, refl, sym, subst}
use Rattle.notes.specs.declared.opening.Opening.TheVariants.{New}
use Rattle.notes.specs.Patches.{kept_at}
use Rattle.notes.specs.Openings.{AtOpening, IsOpened}
use Rattle.notes.proofs.DescriptionLemmas.{Kept_openings, changed_at, is_kept}
use Rattle.notes.proofs.opening.Openings.open.Goals as goal

pub returns : goal.returns
returns c =
    let old : Kept_openings = c.self.inside.each.entries in
    let new : Kept_openings = (c.get_mut.follows.lender (New c.args.description)).entries in
    let was : kept_at old c.args.num ≡ Some c.in-Some.opening.now = sym c.in-Some.ensures.value in
    subst (λ (es : Kept_openings). AtOpening c.args.num (IsOpened c.args.description) es new) c.self.view_is
    (changed_at (IsOpened c.args.description) c.args.num c.in-Some.opening.now (New c.args.description) old new was
    ((c.get_mut.follows.holds (New c.args.description)).3 (is_kept (kept_at old c.args.num) c.in-Some.opening.now was)).0 (record { over = λ o. refl; made = refl }))
