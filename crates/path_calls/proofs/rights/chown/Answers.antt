use Rattle.path_calls.proofs.Binds.{place_go, place_stop}
use Rattle.path_calls.proofs.rights.chown.Goals as goal

pub returns-in_err-place : goal.returns-in_err-place
returns-in_err-place g c pid = place_stop c.args.path.now _ c.from_residual.ensures.1 c.in_err-place.ensures

pub returns : goal.returns
returns g c pid = place_go c.args.path.now _ c.in_ok-place.ensures c.set_owner.ensures
