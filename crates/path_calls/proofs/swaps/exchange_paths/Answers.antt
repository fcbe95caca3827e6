use Rattle.std.proofs.Common.{Option, ◌&&◌, sym, ap}
use Rattle.model.specs.Plan.{EINVAL, ENOENT, ◌>>=◌, ◌>>◌, or_refuse, refuse_if}
use Rattle.model.specs.Paths.{is_below}
use Rattle.model.specs.Walks.{Last, Place, is_directory}
use Rattle.model.specs.Plans.{swapped}
use Rattle.walk.proofs.Laws.{goes, stops, via}
use Rattle.path_calls.proofs.swaps.exchange_paths.Goals as goal

pub returns-in_err-must_not_be_root : goal.returns-in_err-must_not_be_root
returns-in_err-must_not_be_root g c = stops _ c.from_residual.ensures.1 (c.in_err-must_not_be_root.ensures _ _)

pub returns-in_err-at : goal.returns-in_err-at
returns-in_err-at g c = goes _ (c.in_ok-must_not_be_root.ensures _ _) (stops _ c.from_residual-in_err-at.ensures.1 c.in_err-at.ensures)

pub returns-in_err-onto : goal.returns-in_err-onto
returns-in_err-onto g c = goes _ (c.in_ok-must_not_be_root.ensures _ _) (goes _ c.in_ok-at.ensures (stops _ c.from_residual-in_err-onto.ensures.1 c.in_err-onto.ensures))

pub returns-in_err-what : goal.returns-in_err-what
returns-in_err-what g c = goes _ (c.in_ok-must_not_be_root.ensures _ _) (goes _ c.in_ok-at.ensures (goes _ c.in_ok-onto.ensures (rw (← c.at.view_is) (stops _ c.from_residual-in_err-what.ensures.1 (c.in_err-what.ensures _ _)))))

pub returns-in_err-other : goal.returns-in_err-other
returns-in_err-other g c = goes _ (c.in_ok-must_not_be_root.ensures _ _) (goes _ c.in_ok-at.ensures (goes _ c.in_ok-onto.ensures (rw (← c.at.view_is) (goes _ (c.in_ok-what.ensures _ _) (rw (← c.onto.view_is) (stops _ c.from_residual-in_err-other.ensures.1 (c.in_err-other.ensures _ _)))))))

pub returns-in_err-must_not_go_below : goal.returns-in_err-must_not_go_below
returns-in_err-must_not_go_below g c = goes _ (c.in_ok-must_not_be_root.ensures _ _) (goes _ c.in_ok-at.ensures (goes _ c.in_ok-onto.ensures (rw (← c.at.view_is) (goes _ (c.in_ok-what.ensures _ _) (rw (← c.onto.view_is) (goes _ (c.in_ok-other.ensures _ _) (stops _ c.from_residual-in_err-must_not_go_below.ensures.1 (c.in_err-must_not_go_below.ensures _ _))))))))

pub returns-in_err-must_not_go_below-2 : goal.returns-in_err-must_not_go_below-2
returns-in_err-must_not_go_below-2 g c = goes _ (c.in_ok-must_not_be_root.ensures _ _) (goes _ c.in_ok-at.ensures (goes _ c.in_ok-onto.ensures (rw (← c.at.view_is) (goes _ (c.in_ok-what.ensures _ _) (rw (← c.onto.view_is) (goes _ (c.in_ok-other.ensures _ _) (goes _ (c.in_ok-must_not_go_below.ensures _ _) (stops _ c.from_residual-in_err-must_not_go_below-2.ensures.1 (c.in_err-must_not_go_below-2.ensures _ _)))))))))

pub returns : goal.returns
returns g c =
    goes _ (c.in_ok-must_not_be_root.ensures _ _) (goes _ c.in_ok-at.ensures (goes _ c.in_ok-onto.ensures
    (via (ap (λ (found : Option Place). or_refuse ENOENT found >>= λ what. or_refuse ENOENT c.in_ok-onto.onto.found >>= λ other. refuse_if (is_directory what && is_below c.args.from.now c.args.to.now) EINVAL >> (refuse_if (is_directory other && is_below c.args.to.now c.args.from.now) EINVAL >> swapped c.in_ok-at.at what c.in_ok-onto.onto other)) (ap (λ (l : Last). l.found) (sym c.at.view_is)))
    (goes _ (c.in_ok-what.ensures _ _)
    (via (ap (λ (found : Option Place). or_refuse ENOENT found >>= λ other. refuse_if (is_directory c.in_ok-what.what && is_below c.args.from.now c.args.to.now) EINVAL >> (refuse_if (is_directory other && is_below c.args.to.now c.args.from.now) EINVAL >> swapped c.in_ok-at.at c.in_ok-what.what c.in_ok-onto.onto other)) (ap (λ (l : Last). l.found) (sym c.onto.view_is)))
    (goes _ (c.in_ok-other.ensures _ _) (goes _ (c.in_ok-must_not_go_below.ensures _ _) (goes _ (c.in_ok-must_not_go_below-2.ensures _ _) (c.swapped.ensures _ _)))))))))
