use Rattle.model.specs.Plan.{EBUSY}
use Rattle.walk.proofs.Laws.{goes, stops, via}
use Rattle.path_calls.proofs.Binds.{last_go, last_stop, bare_then}
use Rattle.path_calls.proofs.paths.rmdir.Goals as goal

pub returns-in_err-last : goal.returns-in_err-last
returns-in_err-last g c pid = last_stop EBUSY c.args.path.now _ c.from_residual.ensures.1 c.in_err-last.ensures

pub returns-in_err-what : goal.returns-in_err-what
returns-in_err-what g c pid = last_go EBUSY c.args.path.now _ c.in_ok-last.ensures (rw (← c.last.view_is) (stops _ c.from_residual-in_err-what.ensures.1 (c.in_err-what.ensures _ _)))

pub returns-in_err-must_be_directory : goal.returns-in_err-must_be_directory
returns-in_err-must_be_directory g c pid = last_go EBUSY c.args.path.now _ c.in_ok-last.ensures (rw (← c.last.view_is) (goes _ (c.in_ok-what.ensures _ _) (stops _ c.from_residual-in_err-must_be_directory.ensures.1 (c.in_err-must_be_directory.ensures _ _))))

pub returns-in_err-must_have_no_names : goal.returns-in_err-must_have_no_names
returns-in_err-must_have_no_names g c pid = last_go EBUSY c.args.path.now _ c.in_ok-last.ensures (rw (← c.last.view_is) (goes _ (c.in_ok-what.ensures _ _) (goes _ (c.in_ok-must_be_directory.ensures _ _) (via (bare_then c.in_ok-what.what.0 _) (stops _ c.from_residual-in_err-must_have_no_names.ensures.1 c.in_err-must_have_no_names.ensures)))))

pub returns : goal.returns
returns g c pid = last_go EBUSY c.args.path.now _ c.in_ok-last.ensures (rw (← c.last.view_is) (goes _ (c.in_ok-what.ensures _ _) (goes _ (c.in_ok-must_be_directory.ensures _ _) (via (bare_then c.in_ok-what.what.0 _) (goes _ c.in_ok-must_have_no_names.ensures (c.done.ensures _ _))))))
