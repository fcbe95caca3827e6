use mir.Syntax.{w128}
use Rattle.std.proofs.Common.{ap, rules, sym, ◌∙◌, FitsSigned}
use Rattle.std.proofs.lemmas.Int.{to_z-of_z}
use Rattle.model.specs.Plans.{aimed}
use Rattle.calls.specs.Parts.{offset_in}
use Rattle.walk.proofs.Laws.{goes, stops, via}
use Rattle.calls.proofs.seek.lseek.Goals as goal

pub returns-in_err-it : goal.returns-in_err-it
returns-in_err-it g c = stops _ c.from_residual.ensures.1 (c.in_err-it.ensures _)

pub returns-in_err-must_not_be_pipe : goal.returns-in_err-must_not_be_pipe
returns-in_err-must_not_be_pipe g c = goes _ (c.in_ok-it.ensures _) (stops _ c.from_residual-in_err-must_not_be_pipe.ensures.1 (c.in_err-must_not_be_pipe.ensures _ _))

pub returns-in_err-sum : goal.returns-in_err-sum
returns-in_err-sum g c = goes _ (c.in_ok-it.ensures _) (goes _ (c.in_ok-must_not_be_pipe.ensures _ _) (stops _ c.from_residual-in_err-sum.ensures.1 (via (ap (λ move. aimed c.in_ok-it.it move c.args.whence) (sym (to_z-of_z _ _ c.ranges.distance))) c.in_err-sum.ensures)))

pub returns : goal.returns
returns g c =
    let fits : FitsSigned w128 c.in_ok-sum.sum = search rules in
    goes _ (c.in_ok-it.ensures _) (goes _ (c.in_ok-must_not_be_pipe.ensures _ _) (goes _ (via (ap (λ move. aimed c.in_ok-it.it move c.args.whence) (sym (to_z-of_z _ _ c.ranges.distance))) c.in_ok-sum.ensures) (c.sought.ensures (g.L.Look.state c.args.look.now).bounds.file_bytes c.in_ok-sum.sum ((λ i. offset_in (sym c.largest.ensures i) (sym (to_z-of_z _ _ fits) i)) ∙ sym c.offset_of.ensures) _ _)))
