use Rattle.std.proofs.Common.{sym, ap}
use Rattle.contention.specs.Contenders.{Contender}
use Rattle.contention.proofs.Standing.{ranked_there, ranked_count}
use Rattle.contention.proofs.Contenders.records.Goals as goal

pub returns-clause-count : goal.returns-clause-count
returns-clause-count c = rw (← c.self.view_is, ranked_count, c.records.ensures) c.self.invariant

pub returns-clause-each : goal.returns-clause-each
returns-clause-each c = λ q. rw (← c.self.view_is, c.records.ensures) (sym (ap (λ (p : Contender). p.touches) (ranked_there c.self.inside.ranks c.self.inside.records q c.self.invariant)))
