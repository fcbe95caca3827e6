use Rattle.kernel.proofs.Words.{fields}
use Rattle.kernel.proofs.Entries.{forgets_or_not}
use Rattle.kernel.proofs.kernel.Kernel.forget.Goals as goal

pub invariant_of-self : goal.invariant_of-self
invariant_of-self c = forgets_or_not (fields c.self.inside.state) c.self.invariant _ c.forget.result c.forget.ensures.yes c.forget.ensures.no

pub returns-clause-kept : goal.returns-clause-kept
returns-clause-kept c = let holds = invariant_of-self c in record { legal = holds.legal; state = holds.state; forgot = holds.forgot }
