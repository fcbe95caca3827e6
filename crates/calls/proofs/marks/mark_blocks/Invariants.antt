use Rattle.std.proofs.Common.{◌≡◌, ◌++◌, map}
use Rattle.model.specs.Aspects.{Block}
use Rattle.model.specs.Plan.{rising}
use Rattle.look.specs.Asked.{writing}
use Rattle.calls.proofs.marks.mark_blocks.Given as goal

abbrev pub invariant-loop-more : goal.invariant-loop-more
invariant-loop-more l = l.touches ≡ l.fn.touches ++ writing (map (Block l.file) (rising l.first l.more))
