use Rattle.walk.proofs.Laws.{goes, stops}
use Rattle.calls.proofs.descriptors.fchmod.Goals as goal

pub returns-in_err-it : goal.returns-in_err-it
returns-in_err-it g c = stops _ c.from_residual.ensures.1 (c.in_err-it.ensures _)

pub returns : goal.returns
returns g c = goes _ (c.in_ok-it.ensures _) (c.set_permissions.ensures)
