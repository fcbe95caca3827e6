-- The edits before this one have their numbers.
use Rattle.shadow.proofs.claims.NewNumbers.{ClaimsOn}
use Rattle.shadow.proofs.stable.Stable.claim_numbers.Given as goal

abbrev pub invariant-loop-edit : goal.invariant-loop-edit
invariant-loop-edit l = ClaimsOn l.fn.self l.self l.edits l.edit-index l.chosen
