use Rattle.std.proofs.Common.{ap, sym, nat_lt}
use Rattle.model.specs.Plan.{EFBIG, refuse_if}
use Rattle.model.specs.Plans.{changed}
use Rattle.model.specs.Calls.{Done}
use Rattle.walk.proofs.Laws.{goes, stops, via}
use Rattle.path_calls.proofs.Binds.{place_go, place_stop}
use Rattle.path_calls.proofs.paths.truncate.Goals as goal

pub returns-in_err-place : goal.returns-in_err-place
returns-in_err-place g c pid = place_stop c.args.path.now _ c.from_residual.ensures.1 c.in_err-place.ensures

pub returns-in_err-must_not_be_directory : goal.returns-in_err-must_not_be_directory
returns-in_err-must_not_be_directory g c pid = place_go c.args.path.now _ c.in_ok-place.ensures (stops _ c.from_residual-in_err-must_not_be_directory.ensures.1 (c.in_err-must_not_be_directory.ensures _ _))

pub returns-in_err-must_not_be_link : goal.returns-in_err-must_not_be_link
returns-in_err-must_not_be_link g c pid = place_go c.args.path.now _ c.in_ok-place.ensures (goes _ (c.in_ok-must_not_be_directory.ensures _ _) (stops _ c.from_residual-in_err-must_not_be_link.ensures.1 (c.in_err-must_not_be_link.ensures _ _)))

pub returns-in_err-must_not_be_special : goal.returns-in_err-must_not_be_special
returns-in_err-must_not_be_special g c pid = place_go c.args.path.now _ c.in_ok-place.ensures (goes _ (c.in_ok-must_not_be_directory.ensures _ _) (goes _ (c.in_ok-must_not_be_link.ensures _ _) (stops _ c.from_residual-in_err-must_not_be_special.ensures.1 (c.in_err-must_not_be_special.ensures _ _))))

pub returns-in_err-refuse_if : goal.returns-in_err-refuse_if
returns-in_err-refuse_if g c pid = place_go c.args.path.now _ c.in_ok-place.ensures (goes _ (c.in_ok-must_not_be_directory.ensures _ _) (goes _ (c.in_ok-must_not_be_link.ensures _ _) (goes _ (c.in_ok-must_not_be_special.ensures _ _) (stops _ c.from_residual-in_err-refuse_if.ensures.1 (via (ap (λ m. refuse_if (nat_lt m c.args.length) EFBIG) (sym c.largest.ensures)) (c.in_err-refuse_if.ensures _ _))))))

pub returns-in_err-cut : goal.returns-in_err-cut
returns-in_err-cut g c pid = place_go c.args.path.now _ c.in_ok-place.ensures (goes _ (c.in_ok-must_not_be_directory.ensures _ _) (goes _ (c.in_ok-must_not_be_link.ensures _ _) (goes _ (c.in_ok-must_not_be_special.ensures _ _) (goes _ (via (ap (λ m. refuse_if (nat_lt m c.args.length) EFBIG) (sym c.largest.ensures)) (c.in_ok-refuse_if.ensures _ _)) (stops (changed Done) c.from_residual-in_err-cut.ensures.1 c.in_err-cut.ensures)))))

pub returns : goal.returns
returns g c pid = place_go c.args.path.now _ c.in_ok-place.ensures (goes _ (c.in_ok-must_not_be_directory.ensures _ _) (goes _ (c.in_ok-must_not_be_link.ensures _ _) (goes _ (c.in_ok-must_not_be_special.ensures _ _) (goes _ (via (ap (λ m. refuse_if (nat_lt m c.args.length) EFBIG) (sym c.largest.ensures)) (c.in_ok-refuse_if.ensures _ _)) (goes (changed Done) c.in_ok-cut.ensures (c.changed.ensures _ _))))))
