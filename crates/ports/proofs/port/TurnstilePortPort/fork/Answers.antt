use Rattle.std.proofs.Common.{rules, ◌≡◌}
use Rattle.ports.proofs.Called.{called_done}
use Rattle.turnstile.specs.Calls.{Called, Forked}
use Rattle.workers.specs.Port.{child_reply, fork}
use Rattle.ports.proofs.port.TurnstilePortPort.fork.Goals as goal
use Rattle.ports.proofs.port.TurnstilePortPort.fork.Goals.{in-Ok, in-Err}

pub returns-clause-done : goal.returns-clause-done
returns-clause-done g c =
    let same : c.fork.new.pass.pid ≡ c.args.self.now.pid = search rules in
    elim c.match-fork.branch [
      | in-Ok w ↦ (
          let forked : Forked c.args.self.now w.in-Ok.pid c.fork.new.pass w.in-Ok.pass = search rules in
          let done = called_done c.args.self.now c.fork.new.pass fork (child_reply w.in-Ok.pid) same forked.called in
          search rules)
      | in-Err w ↦ search rules
    ]

pub returns-clause-refused : goal.returns-clause-refused
returns-clause-refused g c =
    let same : c.fork.new.pass.pid ≡ c.args.self.now.pid = search rules in
    elim c.match-fork.branch [
      | in-Ok w ↦ search rules
      | in-Err w ↦ (
          let called : Called c.args.self.now fork w.in-Err.reply c.fork.new.pass = search rules in
          let done = called_done c.args.self.now c.fork.new.pass fork w.in-Err.reply same called in
          search rules)
    ]
