use Rattle.kernel.proofs.Words.{subst, limit_of, setup_of, serializable_at}
use Rattle.history_laws.specs.Headline.{IsSerializable}
use Rattle.kernel.proofs.kernel.Kernel.history.Goals as goal

-- by the headline of legal histories
pub returns-clause-serial : goal.returns-clause-serial
returns-clause-serial c = subst (λ v. IsSerializable 0 (setup_of v.log) (limit_of v.log) v.log.entries v.state) c.self.view_is (serializable_at 0 _ _ _ _ c.self.invariant.legal c.self.invariant.state)
