use Rattle.std.proofs.Common.{sym, ◌∙◌}
use Rattle.std.proofs.lemmas.Bool.{eqb-false}
use Rattle.list_modes.proofs.Places.{starts, no_later}
use Rattle.list_modes.proofs.table.first_held.Goals as goal

pub returns-in_err-place-clause-none : goal.returns-in_err-place-clause-none
returns-in_err-place-clause-none c = rw c.from_residual.ensures (λ d. (c.range.ensures.in_range tt).5 (c.in_err-place.ensures.steps.0) (c.args.pid, d) (starts c.args.pid d, tt))

pub returns-else-eq-clause-none : goal.returns-else-eq-clause-none
returns-else-eq-clause-none c = λ d. no_later c.args.marks.now c.args.pid d _ _ c.range.result (c.range.ensures.in_range tt) c.in_ok-place.ensures.steps (eqb-false _ _ (sym c.eq.ensures ∙ c.if-eq.false))
