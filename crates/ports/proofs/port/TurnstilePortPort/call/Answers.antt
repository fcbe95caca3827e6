use Rattle.std.proofs.Common.{rules, ◌≡◌}
use Rattle.ports.proofs.Called.{called_done}
use Rattle.turnstile.specs.Calls.{Called}
use Rattle.ports.proofs.port.TurnstilePortPort.call.Goals as goal

pub returns-clause-done : goal.returns-clause-done
returns-clause-done g c =
    let called : Called c.args.self.now c.args.operation c.call.result c.call.new.pass = search rules in
    let same : c.call.new.pass.pid ≡ c.args.self.now.pid = search rules in
    called_done c.args.self.now c.call.new.pass c.args.operation c.call.result same called
