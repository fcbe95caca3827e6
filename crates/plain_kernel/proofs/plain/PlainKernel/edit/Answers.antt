use Rattle.std.proofs.Common.{◌∙◌}
use Rattle.plain_kernel.proofs.plain.PlainKernel.edit.Goals as goal

pub edit_with-edited-requires-clause-gone : goal.edit_with-edited-requires-clause-gone
edit_with-edited-requires-clause-gone c = c.as_slice.ensures.value ∙ c.in_ok-gone.ensures
