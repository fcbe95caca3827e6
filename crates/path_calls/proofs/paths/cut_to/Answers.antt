use Rattle.std.proofs.Common.{sym}
use Rattle.std.proofs.Common.{[], ◌∷◌, ◌++◌, ap, ◌∙◌}
use Rattle.model.specs.Plan.{Give}
use Rattle.model.specs.Changes.{Cut}
use Rattle.walk.proofs.Laws.{goes, stops, via, gives}
use Rattle.path_calls.proofs.paths.cut_to.Goals as goal

pub returns-in_err-size : goal.returns-in_err-size
returns-in_err-size g c = stops _ c.from_residual.ensures.1 c.in_err-size.ensures

pub returns : goal.returns
returns g c = goes _ c.in_ok-size.ensures (via (ap Give (ap (λ none. none ++ Cut c.args.file c.in_ok-size.size c.args.length ∷ []) (sym c.new.ensures) ∙ sym c.in_ok-edits.ensures)) gives)
