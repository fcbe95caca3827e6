-- What the changes that are left claim is kept.
use Rattle.shadow.proofs.claims.ReleasedClaims.{GivesUp, inode_at}
use Rattle.shadow.proofs.stable.Stable.release_claims_of_inodes.Given as goal

abbrev pub invariant-loop-num : goal.invariant-loop-num
invariant-loop-num l = GivesUp inode_at l.fn.self l.self l.fn.inodes l.num-iterator
