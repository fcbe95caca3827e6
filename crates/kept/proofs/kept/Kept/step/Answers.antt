use Rattle.std.proofs.Common.{sym, subst, ◌∙◌}
use Rattle.history_laws.proofs.Laws.{serializable_at}
use Rattle.machine.specs.Shown.{Shown}
use Rattle.kept.specs.Keeps.{IsKept, StandsFor}
use Rattle.kept.proofs.Going.{stands_on, step_on}
use Rattle.kept.proofs.kept.Kept.step.Goals as goal

-- by the headline of legal histories
pub returns-in-Some-clause-serial : goal.returns-in-Some-clause-serial
returns-in-Some-clause-serial g c =
    let kept = c.in-Some.ensures.step.0 in
    serializable_at 0 _ _ _ _ kept.legal kept.state

pub returns-clause-stands : goal.returns-clause-stands
returns-clause-stands g c = λ kept s.
    let old = c.args.self.now in
    let new = c.step-reply.new.self in
    let on = step_on old.machine.shown new.shown c.args.pid c.args.op c.step-reply.result c.step-reply.ensures.step in
    subst (λ (v : Shown). StandsFor c.save.new.fault c.save.new.store v.log kept) (sym c.save.ensures.shown)
    (c.save.ensures.stands kept (stands_on old.fault old.store old.machine.shown.log new.shown.log kept on s))

pub returns-clause-safe : goal.returns-clause-safe
returns-clause-safe g c = λ wait none kept s.
    let old = c.args.self.now in
    let new = c.step-reply.new.self in
    let on = step_on old.machine.shown new.shown c.args.pid c.args.op c.step-reply.result c.step-reply.ensures.step in
    subst (λ (v : Shown). IsKept c.save.new.store v.log kept) (sym c.save.ensures.shown)
    (c.save.ensures.kept (c.waits-all.ensures ∙ wait) none kept (stands_on old.fault old.store old.machine.shown.log new.shown.log kept on s))
