use Rattle.std.proofs.Common.{[], ◌∷◌, length, sym, ap, ◌∙◌}
use Rattle.model.specs.Plans.{changed, unchanged}
use Rattle.model.specs.Calls.{Bytes}
use Rattle.model.specs.Changes.{Take}
use Rattle.walk.proofs.Laws.{goes, stops, via}
use Rattle.calls.proofs.Blocks.{nothing_left, nothing_plan, taken_plan}
use Rattle.calls.proofs.files.read_some_pipe.Goals as goal

pub returns-in_err-bytes : goal.returns-in_err-bytes
returns-in_err-bytes g c = stops _ c.from_residual.ensures.1 c.in_err-bytes.ensures.value

pub returns-in_err-ends : goal.returns-in_err-ends
returns-in_err-ends g c = goes _ c.in_ok-bytes.ensures.value (via (nothing_plan c.args.pipe c.in_ok-bytes.bytes (sym c.is_empty.ensures ∙ c.if-is_empty.true)) (stops _ c.from_residual-in_err-ends.ensures.1 c.in_err-ends.ensures))

pub returns-in_err-refuse_if : goal.returns-in_err-refuse_if
returns-in_err-refuse_if g c = goes _ c.in_ok-bytes.ensures.value (via (nothing_plan c.args.pipe c.in_ok-bytes.bytes (sym c.is_empty.ensures ∙ c.if-is_empty.true)) (goes _ c.in_ok-ends.ensures (stops _ c.from_residual-in_err-refuse_if.ensures.1 (c.in_err-refuse_if.ensures _ _))))

pub returns-in_ok-refuse_if : goal.returns-in_ok-refuse_if
returns-in_ok-refuse_if g c = goes _ c.in_ok-bytes.ensures.value (via (nothing_plan c.args.pipe c.in_ok-bytes.bytes (sym c.is_empty.ensures ∙ c.if-is_empty.true)) (goes _ c.in_ok-ends.ensures (goes _ (c.in_ok-refuse_if.ensures _ _) (via (ap (λ bytes. unchanged (Bytes bytes)) (nothing_left c.in_ok-bytes.bytes (sym c.is_empty.ensures ∙ c.if-is_empty.true))) (c.unchanged.ensures _ _)))))

pub returns-else-is_empty : goal.returns-else-is_empty
returns-else-is_empty g c = goes _ c.in_ok-bytes.ensures.value (via (taken_plan c.args.pipe c.in_ok-bytes.bytes (sym c.is_empty.ensures ∙ c.if-is_empty.false)) (via (λ i. changed (Bytes c.in_ok-bytes.bytes) (Take c.args.pipe (length (sym c.as_slice.ensures i)) ∷ [])) (c.changed_by.ensures _ _)))
