use Rattle.std.proofs.Common.{rules}
use Rattle.walk.proofs.Then.{goes, stops}
use Rattle.walk.proofs.look_up.Goals as goal

pub returns-in_err-must_not_be_link : goal.returns-in_err-must_not_be_link
returns-in_err-must_not_be_link g c = stops _ c.from_residual.ensures.1 (c.in_err-must_not_be_link.ensures _ _)

pub returns-in_err-must_be_directory : goal.returns-in_err-must_be_directory
returns-in_err-must_be_directory g c = goes _ (c.in_ok-must_not_be_link.ensures _ _) (stops _ c.from_residual-in_err-must_be_directory.ensures.1 (c.in_err-must_be_directory.ensures _ _))

pub returns : goal.returns
returns g c = goes _ (c.in_ok-must_not_be_link.ensures _ _) (goes _ (c.in_ok-must_be_directory.ensures _ _) (search rules))
