use Rattle.std.proofs.Common.{ℕ, List, [], subst, append-nil}
use Rattle.commit_log.specs.Log.{Stands}
use Rattle.recovery.proofs.reopening.finished.Goals as goal

pub returns-in-Ok : goal.returns-in-Ok
returns-in-Ok g c clean payloads is_at = subst (λ (ps : List (List ℕ)). Stands c.in-Ok.log ps []) (append-nil payloads) (c.in-Ok.ensures.opened clean payloads [] is_at)
