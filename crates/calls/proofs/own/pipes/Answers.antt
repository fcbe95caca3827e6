use Rattle.std.proofs.Common.{◌≡◌, ◌∙◌, ℕ, List, [], IfOk, subst}
use Rattle.model.specs.Calls.{Slot}
use Rattle.model.specs.Plans.{each_once}
use Rattle.calls.proofs.Frees.{pipes_of}
use Rattle.calls.proofs.own.pipes.Goals as goal

pub returns : goal.returns
returns g c = subst (λ (es : List (ℕ × Slot)). IfOk c.pipes_of-pipes.result (λ (pipes : List ℕ). pipes ≡ each_once [] (pipes_of es))) (c.as_slice.ensures.value ∙ c.in_ok-table.ensures) c.pipes_of-pipes.ensures
