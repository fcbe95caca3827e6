use Rattle.std.proofs.Common.{arith}
use Rattle.replay.proofs.audit.Audit.follow_all.Goals as goal

pub loop-index-init : goal.loop-index-init
loop-index-init g c = (omega arith, c.requires.0, c.requires.1.1, λ root setup f. f)

pub follow-requires : goal.follow-requires
follow-requires g c = (c.loop-index-test.true, (c.loop-index.invariant.0, (c.loop-index.invariant.1, (c.requires.1.0, c.loop-index.invariant.2))))
