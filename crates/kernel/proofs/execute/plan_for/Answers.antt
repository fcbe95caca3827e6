use Rattle.std.proofs.lemmas.Result.{IfOk-weaker}
use Rattle.shadow.specs.Looks.{DirectoriesAreKept}
use Rattle.kernel.proofs.Words.{subst, is_some, Committed, IsPlan, fields}
use Rattle.kernel.proofs.Entries.{slot_fits}
use Rattle.kernel.proofs.Calls.{plans}
use Rattle.kernel.proofs.execute.plan_for.Goals as goal

-- the changes that the process sees fit
pub view-view-requires : goal.view-view-requires
view-view-requires c = slot_fits (fields c.args.s.now) c.requires.holds c.args.pid

-- the plan over the slots is what the history says
pub returns-clause-answer : goal.returns-clause-answer
returns-clause-answer c = IfOk-weaker c.plan_of.result (λ p. IsPlan c.view-view.result.state c.args.pid c.args.call.now c.is_some.result p) _
    (λ p is. (plans (fields c.args.s.now) c.args.pid c.args.within.now c.args.call.now c.requires p
    (subst (λ (v : Committed). IsPlan v.state c.args.pid c.args.call.now (is_some c.args.within.now) p) c.view-view.ensures.value
    (subst (λ b. IsPlan c.view-view.result.state c.args.pid c.args.call.now b p) c.is_some.ensures is))
    (subst DirectoriesAreKept c.view-view.ensures.value c.view-view.ensures.directories)).answer)
    c.plan_of.ensures

pub returns-clause-plans : goal.returns-clause-plans
returns-clause-plans c = IfOk-weaker c.plan_of.result (λ p. IsPlan c.view-view.result.state c.args.pid c.args.call.now c.is_some.result p) _
    (λ p is. (plans (fields c.args.s.now) c.args.pid c.args.within.now c.args.call.now c.requires p
    (subst (λ (v : Committed). IsPlan v.state c.args.pid c.args.call.now (is_some c.args.within.now) p) c.view-view.ensures.value
    (subst (λ b. IsPlan c.view-view.result.state c.args.pid c.args.call.now b p) c.is_some.ensures is))
    (subst DirectoriesAreKept c.view-view.ensures.value c.view-view.ensures.directories)).plans)
    c.plan_of.ensures
