use Rattle.std.proofs.Common.{[], sym, subst}
use Rattle.machine.specs.Shown.{Shown}
use Rattle.kept.specs.Holds.{Holds}
use Rattle.kept.proofs.kept.Kept.resume.Goals as goal

pub returns-clause-stands : goal.returns-clause-stands
returns-clause-stands g c = λ payloads stands is.
    c.put_store.ensures.stands payloads [] (subst (λ (v : Shown). Holds c.in_ok-store.store v.log payloads []) (sym c.resume.ensures.shown) (c.in_ok-store.ensures.holds payloads stands is))
