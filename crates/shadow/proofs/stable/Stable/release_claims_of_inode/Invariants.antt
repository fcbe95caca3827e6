-- So much of the room is given back.
use Rattle.shadow.proofs.claims.ReleasedClaims.{GivesRoom}
use Rattle.shadow.proofs.stable.Stable.release_claims_of_inode.Given as goal

abbrev pub invariant-loop-given : goal.invariant-loop-given
invariant-loop-given l = GivesRoom l.fn.self l.self l.num l._given
