use Rattle.std.proofs.Common.{not}
use Rattle.model.specs.Plan.{ENOTEMPTY, refuse_if}
use Rattle.walk.proofs.Laws.{goes, stops}
use Rattle.path_calls.proofs.paths.must_have_no_names.Goals as goal

pub returns-in_err-is_empty : goal.returns-in_err-is_empty
returns-in_err-is_empty g c = stops (λ bare. refuse_if (not bare) ENOTEMPTY) c.from_residual.ensures.1 c.in_err-is_empty.ensures

pub returns : goal.returns
returns g c = goes (λ bare. refuse_if (not bare) ENOTEMPTY) c.in_ok-is_empty.ensures (c.refuse_if.ensures _ _)
