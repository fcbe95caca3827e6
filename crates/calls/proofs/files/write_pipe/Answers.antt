use Rattle.std.proofs.Common.{ℕ, List, [], ◌∷◌, length, sym, ap}
use Rattle.model.specs.Plan.{ask, Fit}
use Rattle.model.specs.Plans.{changed}
use Rattle.model.specs.Calls.{Count}
use Rattle.model.specs.Changes.{Append}
use Rattle.walk.proofs.Laws.{goes, stops, via}
use Rattle.calls.proofs.files.write_pipe.Goals as goal

pub returns-in_err-ends : goal.returns-in_err-ends
returns-in_err-ends g c = stops _ c.from_residual.ensures.1 c.in_err-ends.ensures

pub returns-in_err-refuse_if : goal.returns-in_err-refuse_if
returns-in_err-refuse_if g c = goes _ c.in_ok-ends.ensures (stops _ c.from_residual-in_err-refuse_if.ensures.1 (c.in_err-refuse_if.ensures _ _))

pub returns-in_err-fitting : goal.returns-in_err-fitting
returns-in_err-fitting g c = goes _ c.in_ok-ends.ensures (goes _ (c.in_ok-refuse_if.ensures _ _) (stops _ c.from_residual-in_err-fitting.ensures.1 (via (ap (λ (sent : List ℕ). ask (Fit c.args.pipe (length sent))) (sym c.as_slice.ensures)) c.in_err-fitting.ensures.value)))

pub returns-in_err-must_fit : goal.returns-in_err-must_fit
returns-in_err-must_fit g c = goes _ c.in_ok-ends.ensures (goes _ (c.in_ok-refuse_if.ensures _ _) (goes _ (via (ap (λ (sent : List ℕ). ask (Fit c.args.pipe (length sent))) (sym c.as_slice.ensures)) c.in_ok-fitting.ensures.value) (stops _ c.from_residual-in_err-must_fit.ensures.1 (c.in_err-must_fit.ensures _ _))))

pub returns-in_err-refuse_if-2 : goal.returns-in_err-refuse_if-2
returns-in_err-refuse_if-2 g c = goes _ c.in_ok-ends.ensures (goes _ (c.in_ok-refuse_if.ensures _ _) (goes _ (via (ap (λ (sent : List ℕ). ask (Fit c.args.pipe (length sent))) (sym c.as_slice.ensures)) c.in_ok-fitting.ensures.value) (goes _ (c.in_ok-must_fit.ensures _ _) (stops _ c.from_residual-in_err-refuse_if-2.ensures.1 (c.in_err-refuse_if-2.ensures _ _)))))

pub returns : goal.returns
returns g c = goes _ c.in_ok-ends.ensures (goes _ (c.in_ok-refuse_if.ensures _ _) (goes _ (via (ap (λ (sent : List ℕ). ask (Fit c.args.pipe (length sent))) (sym c.as_slice.ensures)) c.in_ok-fitting.ensures.value) (goes _ (c.in_ok-must_fit.ensures _ _) (goes _ (c.in_ok-refuse_if-2.ensures _ _) (via (ap (λ kept. changed (Count c.in_ok-fitting.fitting) (Append c.args.pipe kept ∷ [])) (sym c.in_ok-kept.ensures)) (c.changed_by.ensures _ _))))))
