use Rattle.std.proofs.Common.{◌≡◌, sym, ◌∙◌, rules}
use Rattle.std.proofs.lemmas.Iterator.Adapters.{YieldsList-from_vec}
use Rattle.std.proofs.lemmas.Iterator.Consumers.{YieldsList-so_far, YieldsList-turn}
use Rattle.std.proofs.lemmas.List.{map-id}
use Rattle.runner.proofs.Stepping.{HasDone-took, halts-as}
use Rattle.runner.proofs.steps.make_steps.Goals as goal

pub returns-in_err-do_step-clause-refused : goal.returns-in_err-do_step-clause-refused
returns-in_err-do_step-clause-refused g c =
    let items = c.args.steps.items in
    let gives = c.into_iter-pid-iterator.ensures.into_iter_gives in
    let chain = YieldsList-from_vec {s = c.into_iter-pid-iterator.result} items gives.0 (gives.1 ∙ c.args.steps.ok.0) in
    let so_far = sym (map-id c.loop-pid.yielded) ∙ YieldsList-so_far chain c.loop-pid.yielded _ c.loop-pid.yielded_by in
    let next = YieldsList-turn chain c.loop-pid.yielded _ c.loop-pid.yielded_by c.next.result c.next.new.self (c.in-Some.pid, c.in-Some.op) c.in-Some.is c.next.ensures.steps in
    let same : c.from_residual.result ≡ c.do_step.result = search rules in
    let unchanged : g.K.Machine.shown c.do_step.new.kernel ≡ g.K.Machine.shown c.loop-pid.kernel = search rules in
    halts-as _ c.do_step.result _ _ items c.loop-pid.yielded (g.K.Machine.shown c.loop-pid.kernel) _ c.in-Some.pid c.in-Some.op same unchanged c.do_step.ensures.refused c.loop-pid.invariant so_far next

pub loop-pid-preserved : goal.loop-pid-preserved
loop-pid-preserved g c = HasDone-took c.loop-pid.invariant c.do_step.ensures.kept c.in_ok-do_step.ensures.ok
