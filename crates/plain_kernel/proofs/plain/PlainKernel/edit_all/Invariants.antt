use Rattle.std.proofs.Common.{◌≡◌, drop}
use Rattle.freeing_laws.specs.Sweep.{all_freed}
use Rattle.plain_kernel.proofs.plain.PlainKernel.edit_all.Given as goal

abbrev pub invariant-loop-edit : goal.invariant-loop-edit
invariant-loop-edit l = all_freed l.chosen l.edits l.fn.self ≡ all_freed l.chosen (drop l.edit-index l.edits) l.self
