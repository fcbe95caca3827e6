-- What the changes that are left claim is kept.
use Rattle.shadow.proofs.claims.ReleasedClaims.{GivesUp, opened_at}
use Rattle.shadow.proofs.stable.Stable.release_claims_of_openings.Given as goal

abbrev pub invariant-loop-num : goal.invariant-loop-num
invariant-loop-num l = GivesUp opened_at l.fn.self l.self l.fn.openings l.num-iterator
