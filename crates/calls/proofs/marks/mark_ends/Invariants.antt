use Rattle.std.proofs.Common.{◌≡◌, ◌++◌, drop, map}
use Rattle.model.specs.Aspects.{Ends}
use Rattle.look.specs.Asked.{writing}
use Rattle.calls.proofs.marks.mark_ends.Given as goal

abbrev pub invariant-loop-pipe : goal.invariant-loop-pipe
invariant-loop-pipe l = l.fn.touches ++ writing (map Ends l.pipes) ≡ l.touches ++ writing (map Ends (drop l.pipe-index l.pipes))
