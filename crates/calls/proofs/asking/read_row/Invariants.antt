use Rattle.std.proofs.Common.{◌≡◌, map}
use Rattle.model.specs.Aspects.{Block}
use Rattle.model.specs.Plan.{rising}
use Rattle.look.specs.Asked.{noting}
use Rattle.calls.proofs.asking.read_row.Given as goal

abbrev pub invariant-loop-more : goal.invariant-loop-more
invariant-loop-more l = l.reads ≡ noting l.fn.reads (map (Block l.file) (rising l.first l.more))
