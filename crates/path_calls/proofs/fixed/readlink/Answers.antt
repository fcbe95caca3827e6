use Rattle.walk.proofs.Laws.{goes, stops}
use Rattle.path_calls.proofs.Binds.{place_go, place_stop}
use Rattle.path_calls.proofs.fixed.readlink.Goals as goal

pub returns-in_err-place : goal.returns-in_err-place
returns-in_err-place g c pid = place_stop c.args.path.now _ c.from_residual.ensures.1 c.in_err-place.ensures

pub returns-in_err-must_be_link : goal.returns-in_err-must_be_link
returns-in_err-must_be_link g c pid = place_go c.args.path.now _ c.in_ok-place.ensures (stops _ c.from_residual-in_err-must_be_link.ensures.1 (c.in_err-must_be_link.ensures _ _))

pub returns-in_err-target : goal.returns-in_err-target
returns-in_err-target g c pid = place_go c.args.path.now _ c.in_ok-place.ensures (goes _ (c.in_ok-must_be_link.ensures _ _) (stops _ c.from_residual-in_err-target.ensures.1 c.in_err-target.ensures))

pub returns : goal.returns
returns g c pid = place_go c.args.path.now _ c.in_ok-place.ensures (goes _ (c.in_ok-must_be_link.ensures _ _) (goes _ c.in_ok-target.ensures (c.unchanged.ensures _ _)))
