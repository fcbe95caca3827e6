use Rattle.std.proofs.Common.{◌≡◌, ◌+◌, ℕ}
use Rattle.model.specs.Moments.{Setup}
use Rattle.freeing_laws.specs.Sweep.{IsTidied}
use Rattle.replay.specs.Ran.{Follows}
use Rattle.replay.specs.Windows.{CanSeeAny}
use Rattle.replay.proofs.audit.Audit.follow_all.Given as goal

abbrev pub ghost-follow : goal.ghost-follow
ghost-follow g a = g.es

abbrev pub invariant-loop-index : goal.invariant-loop-index
invariant-loop-index g l =
    (l.position ≡ l.window.offset + l.index) × IsTidied l.self.kernel × CanSeeAny l.window l.self.transactions
    × ((root : ℕ) (setup : Setup) → Follows root setup g.es l.window.offset l.fn.self.kernel l.fn.self.transactions
    → Follows root setup g.es l.position l.self.kernel l.self.transactions)
