use Rattle.std.proofs.Common.{◌≡◌, ℕ, List, [], rules, subst}
use Rattle.history.specs.Log.{Log}
use Rattle.ids.specs.declared.call.Op.{Op}
use Rattle.runner.specs.Runs.{GivesBoth}
use Rattle.runner.specs.Steps.{Stops, limits_of}
use Rattle.script.specs.Steps.{steps}
use Rattle.runner.proofs.Stepping.{ended}
use Rattle.runner.proofs.run.run_schedule.Goals as goal
use Rattle.ids.specs.Bounds.{bounds_of}

pub returns-clause-fault : goal.returns-clause-fault
returns-clause-fault g c =
    let script = c.in_ok-script.script in
    let pids = c.in-Ok.pids.items in
    let items = c.in-Ok-steps_of.steps.items in
    let fault = c.in-Err-do_steps.fault in
    let old = g.O.Sink.written c.args.sink.now in
    let new = g.O.Sink.written c.do_steps.new.sink in
    let given = g.I.Source.remaining c.args.source.now in
    let left = g.I.Source.remaining c.script_in.new.source in
    let both : GivesBoth given left c.args.list.now script pids = record { given = search rules; scheduled = search rules } in
    let log : (g.K.Machine.shown c.in-Ok-with_limits.kernel).log ≡ record { entries = []; priorities = script.priorities; limit = c.args.limits.entries; forgotten = []; bounds = bounds_of c.args.limits } = search rules in
    let is : items ≡ steps script.lines pids = search rules in
    let there : Stops fault (g.K.Machine.shown c.in-Ok-with_limits.kernel).log.priorities (limits_of (g.K.Machine.shown c.in-Ok-with_limits.kernel).log) items old new = search rules in
    let here = subst (λ (l : Log). Stops fault l.priorities (limits_of l) items old new) log there in
    ended fault c.args.list.now c.args.limits given left old new script pids both (subst (λ (xs : List (ℕ × Op)). Stops fault script.priorities c.args.limits xs old new) is here)
