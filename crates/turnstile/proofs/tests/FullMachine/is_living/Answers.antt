use Rattle.std.proofs.Common.{◌≡◌, ◌<◌, rules, arith}
use Rattle.turnstile.proofs.Full.{lives, nobody}
use Rattle.turnstile.proofs.tests.FullMachine.is_living.Goals as goal

pub returns-then-pid-eq0 : goal.returns-then-pid-eq0
returns-then-pid-eq0 c = let zeroth : c.args.pid ≡ 0 = search rules in nobody _ _ c.args.pid c.self.view_is zeroth

pub returns : goal.returns
returns c =
    let same : c.priorities-made.result.now ≡ c.self.inside.history.priorities = search rules in
    let not_zero = c.if-pid-eq0.false in
    let some : 0 < c.pid.inside.0 = omega (arith, not_zero) in
    lives c.self.inside.history _ c.priorities-made.result.now c.pid.inside.0 c.args.pid c.self.view_is same c.pid.view_is some
