use Rattle.model.specs.Plan.{EPERM}
use Rattle.walk.proofs.Laws.{goes, stops}
use Rattle.path_calls.proofs.Binds.{last_go, last_stop}
use Rattle.path_calls.proofs.paths.unlink.Goals as goal

pub returns-in_err-last : goal.returns-in_err-last
returns-in_err-last g c pid = last_stop EPERM c.args.path.now _ c.from_residual.ensures.1 c.in_err-last.ensures

pub returns-in_err-what : goal.returns-in_err-what
returns-in_err-what g c pid = last_go EPERM c.args.path.now _ c.in_ok-last.ensures (rw (← c.last.view_is) (stops _ c.from_residual-in_err-what.ensures.1 (c.in_err-what.ensures _ _)))

pub returns-in_err-must_not_be_directory : goal.returns-in_err-must_not_be_directory
returns-in_err-must_not_be_directory g c pid = last_go EPERM c.args.path.now _ c.in_ok-last.ensures (rw (← c.last.view_is) (goes _ (c.in_ok-what.ensures _ _) (stops _ c.from_residual-in_err-must_not_be_directory.ensures.1 (c.in_err-must_not_be_directory.ensures _ _))))

pub returns : goal.returns
returns g c pid = last_go EPERM c.args.path.now _ c.in_ok-last.ensures (rw (← c.last.view_is) (goes _ (c.in_ok-what.ensures _ _) (goes _ (c.in_ok-must_not_be_directory.ensures _ _) (c.done.ensures _ _))))
