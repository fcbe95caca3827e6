use Rattle.std.proofs.Common.{ℕ, Option, ap, arith, sym, ◌∙◌}
use Rattle.std.proofs.lemmas.Int.{ints, to_z-of_z}
use Rattle.model.specs.Plan.{ENXIO, or_refuse}
use Rattle.model.specs.Plans.{offset_named}
use Rattle.calls.proofs.Seeks.{gives_as}
use Rattle.walk.proofs.Laws.{goes, stops, via}
use Rattle.calls.proofs.seek.found_at.Goals as goal

pub returns-in_err-from : goal.returns-in_err-from
returns-in_err-from g c = stops _ c.from_residual.ensures.1 (via (ap (λ (at : Option ℕ). or_refuse ENXIO at) (ap offset_named (sym (to_z-of_z _ _ c.ranges.offset)) ∙ sym c.offset_named.ensures)) (c.in_err-from.ensures _ _))

pub returns-in_err-place : goal.returns-in_err-place
returns-in_err-place g c = goes _ (via (ap (λ (at : Option ℕ). or_refuse ENXIO at) (ap offset_named (sym (to_z-of_z _ _ c.ranges.offset)) ∙ sym c.offset_named.ensures)) (c.in_ok-from.ensures _ _)) (stops _ c.from_residual-in_err-place.ensures.1 c.in_err-place.ensures)

pub returns : goal.returns
returns g c = goes _ (via (ap (λ (at : Option ℕ). or_refuse ENXIO at) (ap offset_named (sym (to_z-of_z _ _ c.ranges.offset)) ∙ sym c.offset_named.ensures)) (c.in_ok-from.ensures _ _)) (goes _ c.in_ok-place.ensures (gives_as (omega (arith, ints))))
