use Rattle.model.specs.Plan.{EEXIST}
use Rattle.walk.proofs.Laws.{goes, stops}
use Rattle.path_calls.proofs.Binds.{last_go, last_stop}
use Rattle.path_calls.proofs.fixed.made.Goals as goal

pub returns-in_err-last : goal.returns-in_err-last
returns-in_err-last g c = last_stop EEXIST c.args.path.now _ c.from_residual.ensures.1 c.in_err-last.ensures

pub returns-in_err-absent : goal.returns-in_err-absent
returns-in_err-absent g c = last_go EEXIST c.args.path.now _ c.in_ok-last.ensures (rw (← c.last.view_is) (stops _ c.from_residual-in_err-absent.ensures.1 (c.in_err-absent.ensures _ _)))

pub returns : goal.returns
returns g c = last_go EEXIST c.args.path.now _ c.in_ok-last.ensures (rw (← c.last.view_is) (goes _ (c.in_ok-absent.ensures _ _) (c.done.ensures _ _)))
