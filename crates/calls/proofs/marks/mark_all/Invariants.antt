use Rattle.std.proofs.Common.{◌≡◌, ◌++◌, drop}
use Rattle.std.specs.List.{flat_map}
use Rattle.model.specs.Changes.{marks}
use Rattle.look.specs.Asked.{writing}
use Rattle.calls.proofs.marks.mark_all.Given as goal

abbrev pub invariant-loop-edit : goal.invariant-loop-edit
invariant-loop-edit l = l.fn.touches ++ writing (flat_map marks l.edits) ≡ l.touches ++ writing (flat_map marks (drop l.edit-index l.edits))
