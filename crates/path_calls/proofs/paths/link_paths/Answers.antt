use Rattle.walk.proofs.Laws.{goes, stops}
use Rattle.path_calls.proofs.paths.link_paths.Goals as goal

pub returns-in_err-what : goal.returns-in_err-what
returns-in_err-what g c = stops _ c.from_residual.ensures.1 c.in_err-what.ensures

pub returns-in_err-must_not_be_directory : goal.returns-in_err-must_not_be_directory
returns-in_err-must_not_be_directory g c = goes _ c.in_ok-what.ensures (stops _ c.from_residual-in_err-must_not_be_directory.ensures.1 (c.in_err-must_not_be_directory.ensures _ _))

pub returns-in_err-last : goal.returns-in_err-last
returns-in_err-last g c = goes _ c.in_ok-what.ensures (goes _ (c.in_ok-must_not_be_directory.ensures _ _) (stops _ c.from_residual-in_err-last.ensures.1 c.in_err-last.ensures))

pub returns-in_err-absent : goal.returns-in_err-absent
returns-in_err-absent g c = goes _ c.in_ok-what.ensures (goes _ (c.in_ok-must_not_be_directory.ensures _ _) (goes _ c.in_ok-last.ensures (rw (← c.last.view_is) (stops _ c.from_residual-in_err-absent.ensures.1 (c.in_err-absent.ensures _ _)))))

pub returns : goal.returns
returns g c = goes _ c.in_ok-what.ensures (goes _ (c.in_ok-must_not_be_directory.ensures _ _) (goes _ c.in_ok-last.ensures (rw (← c.last.view_is) (goes _ (c.in_ok-absent.ensures _ _) (c.done.ensures _ _)))))
