use Rattle.std.proofs.Common.{[], ◌∷◌, refl, sym, ap, ◌∙◌, if◌then◌else◌}
use Rattle.model.specs.Plan.{◌>>=◌}
use Rattle.model.specs.Plans.{changed, unchanged}
use Rattle.model.specs.Calls.{Done}
use Rattle.model.specs.Changes.{Move}
use Rattle.model.specs.Walks.{Last}
use Rattle.path_calls.specs.Parts.{gives, replaced}
use Rattle.walk.proofs.Laws.{goes, stops, via}
use Rattle.path_calls.proofs.Binds.{move_by, moved_then}
use Rattle.path_calls.proofs.paths.moved.Goals as goal

pub returns-then-gives : goal.returns-then-gives
returns-then-gives g c = via (moved_then c.args.from c.args.what c.args.to c.args.to.found) (via (ap (λ found. if gives found c.args.what.0 then unchanged Done else (replaced c.args.what c.args.to.found >>= move_by c.args.from c.args.what c.args.to)) (ap (λ (l : Last). l.found) (sym c.to.view_is))) (via (ap (λ b. if b then unchanged Done else (replaced c.args.what c.args.to.found >>= move_by c.args.from c.args.what c.args.to)) (sym c.gives.ensures ∙ c.if-gives.true)) (c.unchanged.ensures _ _)))

pub returns-in-Ok : goal.returns-in-Ok
returns-in-Ok g c = via (moved_then c.args.from c.args.what c.args.to c.args.to.found) (via (ap (λ found. if gives found c.args.what.0 then unchanged Done else (replaced c.args.what c.args.to.found >>= move_by c.args.from c.args.what c.args.to)) (ap (λ (l : Last). l.found) (sym c.to.view_is))) (via (ap (λ b. if b then unchanged Done else (replaced c.args.what c.args.to.found >>= move_by c.args.from c.args.what c.args.to)) (sym c.gives.ensures ∙ c.if-gives.false)) (via (ap (λ found. replaced c.args.what found >>= move_by c.args.from c.args.what c.args.to) (ap (λ (l : Last). l.found) (sym c.to.view_is))) (goes (move_by c.args.from c.args.what c.args.to) c.in-Ok.ensures (via (λ i. changed Done (Move (sym c.from.view_is i).parent (sym c.from.view_is i).name (sym c.to.view_is i).parent (sym c.to.view_is i).name c.args.what.0 c.in-Ok.replaced ∷ [])) (c.done.ensures _ _))))))

pub returns-in-Err : goal.returns-in-Err
returns-in-Err g c = via (moved_then c.args.from c.args.what c.args.to c.args.to.found) (via (ap (λ found. if gives found c.args.what.0 then unchanged Done else (replaced c.args.what c.args.to.found >>= move_by c.args.from c.args.what c.args.to)) (ap (λ (l : Last). l.found) (sym c.to.view_is))) (via (ap (λ b. if b then unchanged Done else (replaced c.args.what c.args.to.found >>= move_by c.args.from c.args.what c.args.to)) (sym c.gives.ensures ∙ c.if-gives.false)) (via (ap (λ found. replaced c.args.what found >>= move_by c.args.from c.args.what c.args.to) (ap (λ (l : Last). l.found) (sym c.to.view_is))) (stops (move_by c.args.from c.args.what c.args.to) refl c.in-Err.ensures))))
