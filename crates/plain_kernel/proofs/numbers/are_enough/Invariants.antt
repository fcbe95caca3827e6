use Rattle.std.proofs.Common.{◌≡◌, ◌+◌, take}
use Rattle.std.specs.List.{sum_by}
use Rattle.model.specs.Changes.{news}
use Rattle.plain_kernel.proofs.numbers.are_enough.Given as goal

abbrev pub invariant-loop-edit : goal.invariant-loop-edit
invariant-loop-edit l = l.left + sum_by news (take l.edit-index l.edits) ≡ l.count
