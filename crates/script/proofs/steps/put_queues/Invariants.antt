use Rattle.std.proofs.Common.{◌≡◌, [], replicate}
use Rattle.script.proofs.steps.put_queues.Given as goal

-- as many queues as the loop has made
abbrev pub invariant-loop-count : goal.invariant-loop-count
invariant-loop-count l = l.queues.items ≡ replicate l.count-index []
