use Rattle.std.proofs.Common.{◌≡◌, Some, sym, subst}
use Rattle.notes.specs.Patches.{kept_at}
use Rattle.notes.specs.Openings.{AtOpening, IsMoved}
use Rattle.notes.proofs.DescriptionLemmas.{Kept_openings, changed_at, is_kept}
use Rattle.notes.proofs.opening.Openings.move_to.Goals as goal

pub returns : goal.returns
returns c =
    let old : Kept_openings = c.self.inside.each.entries in
    let new : Kept_openings = (c.get_mut.follows.lender c.moved_to.result).entries in
    let was : kept_at old c.args.num ≡ Some c.in-Some.opening.now = sym c.in-Some.ensures.value in
    subst (λ (es : Kept_openings). AtOpening c.args.num (IsMoved c.args.offset) es new) c.self.view_is
    (changed_at (IsMoved c.args.offset) c.args.num c.in-Some.opening.now c.moved_to.result old new was
    ((c.get_mut.follows.holds c.moved_to.result).3 (is_kept (kept_at old c.args.num) c.in-Some.opening.now was)).0 c.moved_to.ensures)
