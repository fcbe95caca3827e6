use Rattle.std.proofs.Common.{[], ◌∷◌, sym}
use Rattle.walk.proofs.Laws.{via}
use Rattle.model.specs.Plans.{changed}
use Rattle.model.specs.Calls.{Done}
use Rattle.model.specs.Changes.{End_process}
use Rattle.calls.proofs.descriptors.exit.Goals as goal

pub returns : goal.returns
returns g c before = via (λ i. changed Done (End_process c.args.pid (sym c.in_ok-pipes.ensures i) ∷ [])) (c.changed_by.ensures _ _)
