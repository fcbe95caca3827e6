use Rattle.std.proofs.Common.{[], ◌∷◌, sym}
use Rattle.model.specs.Plans.{changed}
use Rattle.model.specs.Calls.{Done}
use Rattle.model.specs.Changes.{Clear_slot}
use Rattle.walk.proofs.Laws.{goes, stops, via}
use Rattle.calls.proofs.descriptors.close.Goals as goal

pub returns-in_err-it : goal.returns-in_err-it
returns-in_err-it g c before = stops _ c.from_residual.ensures.1 (c.in_err-it.ensures _)

pub returns : goal.returns
returns g c before = goes _ (c.in_ok-it.ensures _) (via (λ i. changed Done (Clear_slot c.args.pid c.args.fd (sym c.in_ok-pipes.ensures i) ∷ [])) (c.changed_by.ensures _ _))
