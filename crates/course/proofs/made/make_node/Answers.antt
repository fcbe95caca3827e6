use Rattle.std.proofs.Common.{ℕ, false, ap}
use Rattle.machine.specs.Shown.{Shown}
use Rattle.course.specs.Courses.{looking_at, making_special}
use Rattle.course.specs.Rights.{rights_in}
use Rattle.course.proofs.Runs.{by_pid, goes_on, stops}
use Rattle.course.proofs.made.make_node.Goals as goal

pub returns-in_err-home-clause-ran : goal.returns-in_err-home-clause-ran
returns-in_err-home-clause-ran g c = stops (looking_at c.args.hand.now.pid c.args.parent) _ _ c.from_residual.ensures.1 c.in_err-home.ensures.ran

pub returns-clause-ran : goal.returns-clause-ran
returns-clause-ran g c =
    let h = rw c.rights_in-rights.ensures at c.make_special.ensures.ran in
    goes_on (looking_at c.args.hand.now.pid c.args.parent) _ c.in_ok-home.ensures.ran (by_pid (λ p. making_special p c.args.special c.args.path c.args.again (rights_in false c.in_ok-home.home.rights c.args.given)) (ap (λ (b : ℕ × Shown). b.0) c.in_ok-home.ensures.bound) h)
