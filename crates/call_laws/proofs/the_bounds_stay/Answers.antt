use Rattle.call_laws.proofs.Bounds.{the_bounds_stay}
use Rattle.call_laws.proofs.the_bounds_stay.Goals as goal

pub returns : goal.returns
returns c = the_bounds_stay
