use Rattle.std.proofs.Common.{[], ◌∷◌, ◌-◌, min, sym, ap, ◌∙◌, if◌then◌else◌}
use Rattle.model.specs.Plans.{changed}
use Rattle.model.specs.Calls.{Done}
use Rattle.model.specs.Changes.{Wipe}
use Rattle.walk.proofs.Laws.{goes, stops, via}
use Rattle.calls.proofs.ranges.punched.Goals as goal

pub returns-in_err-size : goal.returns-in_err-size
returns-in_err-size g c = stops _ c.from_residual.ensures.1 c.in_err-size.ensures

pub returns-then-begins_within : goal.returns-then-begins_within
returns-then-begins_within g c = goes _ c.in_ok-size.ensures (via (ap (λ b. changed Done (if b then Wipe c.args.file c.args.offset (min c.args.count (c.in_ok-size.size - c.args.offset)) ∷ [] else [])) (sym c.begins_within.ensures ∙ c.if-begins_within.true)) (via (ap (λ count. changed Done (Wipe c.args.file c.args.offset count ∷ [])) (sym c.part_within.ensures)) (c.changed_by.ensures _ _)))

pub returns-else-begins_within : goal.returns-else-begins_within
returns-else-begins_within g c = goes _ c.in_ok-size.ensures (via (ap (λ b. changed Done (if b then Wipe c.args.file c.args.offset (min c.args.count (c.in_ok-size.size - c.args.offset)) ∷ [] else [])) (sym c.begins_within.ensures ∙ c.if-begins_within.false)) (c.unchanged.ensures _ _))
