use Rattle.std.proofs.Common.{ℕ, [], ◌∷◌, Some, sym, ap, add-one}
use Rattle.model.specs.Plans.{changed, forked}
use Rattle.model.specs.Calls.{own, Child, Fork}
use Rattle.model.specs.Changes.{New_process}
use Rattle.walk.proofs.Laws.{goes, stops, via}
use Rattle.calls.proofs.descriptors.fork.Goals as goal

pub returns-in_err-must_be_below : goal.returns-in_err-must_be_below
returns-in_err-must_be_below g c before = via (ap (λ (birth : ℕ × ℕ). forked (own (g.L.Look.state c.args.look.now) c.args.pid Fork) (Some birth)) (sym c.in_ok-birth.ensures)) (stops _ c.from_residual-in_err-must_be_below.ensures.1 (c.in_err-must_be_below.ensures.value _ _))

pub returns : goal.returns
returns g c before = via (ap (λ (birth : ℕ × ℕ). forked (own (g.L.Look.state c.args.look.now) c.args.pid Fork) (Some birth)) (sym c.in_ok-birth.ensures)) (goes _ (c.in_ok-must_be_below.ensures.value _ _) (via (λ i. changed (Child (sym (add-one c.in_ok-birth.birth.0) i)) (New_process (sym (add-one c.in_ok-birth.birth.0) i) c.args.pid (sym c.in_ok-pipes.ensures i) ∷ [])) (c.changed_by.ensures _ _)))
