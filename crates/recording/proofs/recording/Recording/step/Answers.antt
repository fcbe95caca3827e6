use Rattle.history_laws.proofs.Laws.{serializable_at}
use Rattle.recording.proofs.recording.Recording.step.Goals as goal

pub invariant_of-self : goal.invariant_of-self
invariant_of-self g c = record { kept = c.step.ensures.kept; faithful = c.step.ensures.faithful; few = c.step.ensures.few }

-- by the headline of legal histories
pub returns-clause-serial : goal.returns-clause-serial
returns-clause-serial g c = serializable_at 0 _ _ _ _ c.step.ensures.kept.legal c.step.ensures.kept.state
