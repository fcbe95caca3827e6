use Rattle.std.proofs.Common.{sym, ap, ◌∙◌}
use Rattle.model.specs.Plans.{opened}
use Rattle.model.specs.Walks.{Last}
use Rattle.look.specs.Shown.{own_in}
use Rattle.walk.proofs.Laws.{goes, stops, via}
use Rattle.calls.proofs.Frees.{lowest_by}
use Rattle.calls.proofs.files.open_path.Goals as goal

pub returns-in_err-fd : goal.returns-in_err-fd
returns-in_err-fd g c = stops _ c.from_residual.ensures.1 (via (lowest_by (g.L.Look.state c.args.look.now) c.args.pid) (c.in_err-fd.ensures.value _))

pub returns-in_err-last : goal.returns-in_err-last
returns-in_err-last g c = goes _ (via (lowest_by (g.L.Look.state c.args.look.now) c.args.pid) (c.in_ok-fd.ensures.value _)) (rw (sym c.refusal_of_root.ensures) (stops _ c.from_residual-in_err-last.ensures.1 c.in_err-last.ensures))

pub returns-in-None : goal.returns-in-None
returns-in-None g c = goes _ (via (lowest_by (g.L.Look.state c.args.look.now) c.args.pid) (c.in_ok-fd.ensures.value _)) (rw (sym c.refusal_of_root.ensures) (goes _ c.in_ok-last.ensures (via (ap (opened (own_in (g.L.Look.state c.args.look.now) c.args.pid) c.args.flags c.in_ok-fd.fd c.in_ok-last.last) (ap (λ (l : Last). l.found) (sym c.last.view_is) ∙ c.in-None.is)) (c.opened_new.ensures _ _))))

pub returns-in-Some : goal.returns-in-Some
returns-in-Some g c = goes _ (via (lowest_by (g.L.Look.state c.args.look.now) c.args.pid) (c.in_ok-fd.ensures.value _)) (rw (sym c.refusal_of_root.ensures) (goes _ c.in_ok-last.ensures (via (ap (opened (own_in (g.L.Look.state c.args.look.now) c.args.pid) c.args.flags c.in_ok-fd.fd c.in_ok-last.last) (ap (λ (l : Last). l.found) (sym c.last.view_is) ∙ c.in-Some.is)) (c.opened_old-change.ensures c.in_ok-last.last))))
