use Rattle.std.proofs.Common.{ap, sym, nat_lt}
use Rattle.model.specs.Plan.{EFBIG, refuse_if}
use Rattle.model.specs.Plans.{changed}
use Rattle.model.specs.Calls.{Done}
use Rattle.walk.proofs.Laws.{goes, stops, via}
use Rattle.calls.proofs.files.ftruncate.Goals as goal

pub returns-in_err-it : goal.returns-in_err-it
returns-in_err-it g c = stops _ c.from_residual.ensures.1 (c.in_err-it.ensures _)

pub returns-in_err-refuse_if : goal.returns-in_err-refuse_if
returns-in_err-refuse_if g c = goes _ (c.in_ok-it.ensures _) (stops _ c.from_residual-in_err-refuse_if.ensures.1 (c.in_err-refuse_if.ensures _ _))

pub returns-in_err-must_not_be_pipe : goal.returns-in_err-must_not_be_pipe
returns-in_err-must_not_be_pipe g c = goes _ (c.in_ok-it.ensures _) (goes _ (c.in_ok-refuse_if.ensures _ _) (stops _ c.from_residual-in_err-must_not_be_pipe.ensures.1 (c.in_err-must_not_be_pipe.ensures _ _)))

pub returns-in_err-refuse_if-2 : goal.returns-in_err-refuse_if-2
returns-in_err-refuse_if-2 g c = goes _ (c.in_ok-it.ensures _) (goes _ (c.in_ok-refuse_if.ensures _ _) (goes _ (c.in_ok-must_not_be_pipe.ensures _ _) (stops _ c.from_residual-in_err-refuse_if-2.ensures.1 (via (ap (λ m. refuse_if (nat_lt m c.args.length) EFBIG) (sym c.largest.ensures)) (c.in_err-refuse_if-2.ensures _ _)))))

pub returns-in_err-cut : goal.returns-in_err-cut
returns-in_err-cut g c = goes _ (c.in_ok-it.ensures _) (goes _ (c.in_ok-refuse_if.ensures _ _) (goes _ (c.in_ok-must_not_be_pipe.ensures _ _) (goes _ (via (ap (λ m. refuse_if (nat_lt m c.args.length) EFBIG) (sym c.largest.ensures)) (c.in_ok-refuse_if-2.ensures _ _)) (stops (changed Done) c.from_residual-in_err-cut.ensures.1 c.in_err-cut.ensures))))

pub returns : goal.returns
returns g c = goes _ (c.in_ok-it.ensures _) (goes _ (c.in_ok-refuse_if.ensures _ _) (goes _ (c.in_ok-must_not_be_pipe.ensures _ _) (goes _ (via (ap (λ m. refuse_if (nat_lt m c.args.length) EFBIG) (sym c.largest.ensures)) (c.in_ok-refuse_if-2.ensures _ _)) (goes (changed Done) c.in_ok-cut.ensures (c.changed.ensures _ _)))))
