use Rattle.std.proofs.Common.{[], ◌∷◌, sym, ap, ◌∙◌, if◌then◌else◌}
use Rattle.model.specs.Plans.{changed, unchanged}
use Rattle.model.specs.Calls.{Done}
use Rattle.model.specs.Changes.{Swap}
use Rattle.walk.proofs.Laws.{via}
use Rattle.path_calls.proofs.swaps.swapped.Goals as goal

pub returns-then-are_one : goal.returns-then-are_one
returns-then-are_one c k before = via (ap (λ b. if b then unchanged Done else changed Done (Swap c.args.at.parent c.args.at.name c.args.what.0 c.args.onto.parent c.args.onto.name c.args.other.0 ∷ [])) (sym c.are_one.ensures ∙ c.if-are_one.true)) (c.unchanged.ensures _ _)

pub returns : goal.returns
returns c k before = via (ap (λ b. if b then unchanged Done else changed Done (Swap c.args.at.parent c.args.at.name c.args.what.0 c.args.onto.parent c.args.onto.name c.args.other.0 ∷ [])) (sym c.are_one.ensures ∙ c.if-are_one.false)) (via (λ i. changed Done (Swap (sym c.at.view_is i).parent (sym c.at.view_is i).name c.args.what.0 (sym c.onto.view_is i).parent (sym c.onto.view_is i).name c.args.other.0 ∷ [])) (c.done.ensures _ _))
