use Rattle.std.proofs.Common.{Option, ◌&&◌, sym, ap}
use Rattle.model.specs.Plan.{EBUSY, EINVAL, ENOENT, ◌>>=◌, ◌>>◌, or_refuse, refuse_if}
use Rattle.model.specs.Paths.{is_below}
use Rattle.model.specs.Walks.{Last, Place, is_directory, last_of}
use Rattle.model.specs.Plans.{moved}
use Rattle.walk.proofs.Laws.{goes, stops, via}
use Rattle.path_calls.proofs.paths.rename_paths.Goals as goal

pub returns-in_err-must_not_be_root : goal.returns-in_err-must_not_be_root
returns-in_err-must_not_be_root g c = stops _ c.from_residual.ensures.1 (c.in_err-must_not_be_root.ensures _ _)

pub returns-in_err-at : goal.returns-in_err-at
returns-in_err-at g c = goes _ (c.in_ok-must_not_be_root.ensures _ _) (stops _ c.from_residual-in_err-at.ensures.1 c.in_err-at.ensures)

pub returns-in_err-what : goal.returns-in_err-what
returns-in_err-what g c = goes _ (c.in_ok-must_not_be_root.ensures _ _) (goes _ c.in_ok-at.ensures (rw (← c.at.view_is) (stops _ c.from_residual-in_err-what.ensures.1 (c.in_err-what.ensures _ _))))

pub returns-in_err-must_not_go_below : goal.returns-in_err-must_not_go_below
returns-in_err-must_not_go_below g c = goes _ (c.in_ok-must_not_be_root.ensures _ _) (goes _ c.in_ok-at.ensures (rw (← c.at.view_is) (goes _ (c.in_ok-what.ensures _ _) (stops _ c.from_residual-in_err-must_not_go_below.ensures.1 (c.in_err-must_not_go_below.ensures _ _)))))

pub returns-in_err-onto : goal.returns-in_err-onto
returns-in_err-onto g c = goes _ (c.in_ok-must_not_be_root.ensures _ _) (goes _ c.in_ok-at.ensures (rw (← c.at.view_is) (goes _ (c.in_ok-what.ensures _ _) (goes _ (c.in_ok-must_not_go_below.ensures _ _) (stops _ c.from_residual-in_err-onto.ensures.1 c.in_err-onto.ensures)))))

pub returns : goal.returns
returns g c =
    let root = (g.L.Look.state c.args.look.now).root in
    goes _ (c.in_ok-must_not_be_root.ensures _ _) (goes _ c.in_ok-at.ensures (via (ap (λ (found : Option Place). or_refuse ENOENT found >>= λ what. refuse_if (is_directory what && is_below c.args.from.now c.args.to.now) EINVAL >> (last_of root EBUSY c.args.to.now >>= λ (onto : Last). moved c.in_ok-at.at what onto onto.found)) (ap (λ (l : Last). l.found) (sym c.at.view_is))) (goes _ (c.in_ok-what.ensures _ _) (goes _ (c.in_ok-must_not_go_below.ensures _ _) (goes _ c.in_ok-onto.ensures c.moved.ensures)))))
