use Rattle.walk.proofs.Laws.{goes, stops}
use Rattle.path_calls.proofs.paths.rename.Goals as goal

pub returns-in_err-from : goal.returns-in_err-from
returns-in_err-from g c pid = stops _ c.from_residual.ensures.1 (c.in_err-from.ensures _)

pub returns-in_err-to : goal.returns-in_err-to
returns-in_err-to g c pid = goes _ (c.in_ok-from.ensures _) (stops _ c.from_residual-in_err-to.ensures.1 (c.in_err-to.ensures _))

pub returns : goal.returns
returns g c pid = goes _ (c.in_ok-from.ensures _) (goes _ (c.in_ok-to.ensures _) c.rename_paths-change.ensures)
