use Rattle.std.proofs.lemmas.Result.{IfOk-weaker}
use Rattle.shadow.specs.Looks.{DirectoriesAreKept}
use Rattle.kernel.proofs.Words.{subst, Committed, IsPlanWithoutTouches, fields}
use Rattle.kernel.proofs.Entries.{slot_fits}
use Rattle.kernel.proofs.Calls.{plans_alone}
use Rattle.kernel.proofs.execute.plan_alone.Goals as goal

-- the changes that the process sees fit
pub view-view-requires : goal.view-view-requires
view-view-requires c = slot_fits (fields c.args.s.now) c.requires.holds c.args.pid

-- the plan over the slots is what the history says
pub returns-clause-answer : goal.returns-clause-answer
returns-clause-answer c = IfOk-weaker c.plan_without_touches.result (λ p. IsPlanWithoutTouches c.view-view.result.state c.args.pid c.args.call.now p) _
    (λ p is. (plans_alone (fields c.args.s.now) c.args.pid c.args.call.now c.requires p
    (subst (λ (v : Committed). IsPlanWithoutTouches v.state c.args.pid c.args.call.now p) c.view-view.ensures.value is)
    (subst DirectoriesAreKept c.view-view.ensures.value c.view-view.ensures.directories)).answer)
    c.plan_without_touches.ensures

pub returns-clause-plans : goal.returns-clause-plans
returns-clause-plans c = IfOk-weaker c.plan_without_touches.result (λ p. IsPlanWithoutTouches c.view-view.result.state c.args.pid c.args.call.now p) _
    (λ p is. (plans_alone (fields c.args.s.now) c.args.pid c.args.call.now c.requires p
    (subst (λ (v : Committed). IsPlanWithoutTouches v.state c.args.pid c.args.call.now p) c.view-view.ensures.value is)
    (subst DirectoriesAreKept c.view-view.ensures.value c.view-view.ensures.directories)).plans)
    c.plan_without_touches.ensures
