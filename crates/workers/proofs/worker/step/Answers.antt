use Rattle.std.proofs.Common.{rules, ◌≡◌, Some, sym, subst}
use Rattle.workers.specs.Events.{Comes}
use Rattle.workers.specs.Positions.{shown}
use Rattle.workers.specs.Rules.{asked}
use Rattle.workers.proofs.Runs.{bears}
use Rattle.workers.proofs.worker.step.Goals as goal

pub returns-in-Ok-clause-comes : goal.returns-in-Ok-clause-comes
returns-in-Ok-clause-comes g c = λ lines stands.
    let born = c.in-Ok.ensures.child in
    let next : asked (shown c.args.position.now) ≡ Some c.in-Ok-Some.operation = search rules in
    let on = bears stands next born c.take_child.ensures.position in
    subst (λ e. Comes g.P.Port.number g.P.Port.home g.P.Port.done (g.P.Port.home c.args.port.now) lines (g.P.Port.done c.args.port.now) (g.P.Port.done c.ask.new.port) (shown c.take_child.new.position) (Some e))
    (sym c.take_child.ensures.event) (on.0, on.1, born.number_is, born.home_is, born.fresh)
