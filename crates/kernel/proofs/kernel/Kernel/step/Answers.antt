use Rattle.kernel.proofs.Words.{serializable_at}
use Rattle.kernel.proofs.kernel.Kernel.step.Goals as goal

-- by the headline of legal histories
pub returns-clause-serial : goal.returns-clause-serial
returns-clause-serial c = serializable_at 0 _ _ _ _ c.step.ensures.holds.legal c.step.ensures.holds.state
