use Rattle.walk.proofs.Laws.{goes, stops}
use Rattle.path_calls.proofs.paths.place_at.Goals as goal

pub returns-in_err-path : goal.returns-in_err-path
returns-in_err-path g c = stops _ c.from_residual.ensures.1 (c.in_err-path.ensures _)

pub returns : goal.returns
returns g c = goes _ (c.in_ok-path.ensures _) c.walk.ensures
