use Rattle.std.proofs.Common.{[], ◌∷◌, ◌+◌, sym, ap, ◌∙◌, if◌then◌else◌}
use Rattle.model.specs.Plans.{changed}
use Rattle.model.specs.Calls.{Done}
use Rattle.model.specs.Changes.{Cut}
use Rattle.walk.proofs.Laws.{goes, stops, via}
use Rattle.calls.proofs.ranges.grown.Goals as goal

pub returns-in_err-size : goal.returns-in_err-size
returns-in_err-size g c = stops _ c.from_residual.ensures.1 c.in_err-size.ensures

pub returns-then-ends_before : goal.returns-then-ends_before
returns-then-ends_before g c = goes _ c.in_ok-size.ensures (via (ap (λ b. changed Done (if b then Cut c.args.file c.in_ok-size.size (c.args.offset + c.args.count) ∷ [] else [])) (sym c.ends_before.ensures ∙ c.if-ends_before.true)) (c.changed_by.ensures _ _))

pub returns-else-ends_before : goal.returns-else-ends_before
returns-else-ends_before g c = goes _ c.in_ok-size.ensures (via (ap (λ b. changed Done (if b then Cut c.args.file c.in_ok-size.size (c.args.offset + c.args.count) ∷ [] else [])) (sym c.ends_before.ensures ∙ c.if-ends_before.false)) (c.unchanged.ensures _ _))
