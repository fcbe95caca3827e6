use Rattle.std.proofs.Common.{sym, subst, ap}
use Rattle.shadow.specs.Claims.{Covers}
use Rattle.commit.specs.ProcessStates.{slot_at}
use Rattle.commit.proofs.Keeping.{slot_covered}
use Rattle.commit.proofs.transactions.Transactions.view.Goals as goal

pub returns-clause-directories : goal.returns-clause-directories
returns-clause-directories c =
    c.new.ensures.directories (subst (Covers c.self.inside.stable) (sym c.shadow_of.ensures.changes)
    (slot_covered c.self.inside.slots c.self.inside.stable c.args.pid (slot_at c.as_slice.result.now c.args.pid) c.self.invariant
    (ap (λ slots. slot_at slots c.args.pid) c.as_slice.ensures)))
