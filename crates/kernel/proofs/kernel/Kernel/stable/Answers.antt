use Rattle.kernel.proofs.Words.{subst, StaysWithinLimits, limits_are_kept, tree_at, moment}
use Rattle.history_laws.specs.Trees.{IsATree}
use Rattle.kernel.proofs.kernel.Kernel.stable.Goals as goal

-- by the law of committed directories
pub returns-clause-tree : goal.returns-clause-tree
returns-clause-tree c = subst (λ v. IsATree v.state) c.self.view_is (tree_at 0 _ _ _ _ c.self.invariant.legal c.self.invariant.state)

-- by the law of limits
pub returns-clause-limits : goal.returns-clause-limits
returns-clause-limits c = subst (λ v. StaysWithinLimits (moment v.log)) c.self.view_is (limits_are_kept 0 _ _ _ c.self.invariant.legal c.self.invariant.few)
