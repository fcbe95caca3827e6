-- What is left of the numbers is kept.
use Rattle.std.proofs.Common.{drop, ◌++◌}
use Rattle.freeing_laws.specs.Counts.{listed}
use Rattle.shadow.proofs.claims.ReleasedClaims.{GivesNumbers}
use Rattle.shadow.proofs.stable.Stable.release_claims.Given as goal

abbrev pub invariant-loop-num : goal.invariant-loop-num
invariant-loop-num l = GivesNumbers l.fn.self l.self l.chosen (listed l.parents.0 ++ listed l.parents.1) (drop l.num-index l.chosen)
