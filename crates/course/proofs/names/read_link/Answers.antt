use Rattle.std.proofs.Common.{ℕ, ap}
use Rattle.machine.specs.Shown.{Shown}
use Rattle.course.specs.Courses.{looking_for, reading_target}
use Rattle.course.proofs.Runs.{by_pid, goes_on, stops}
use Rattle.course.proofs.names.read_link.Goals as goal

pub returns-in_err-look_for-clause-ran : goal.returns-in_err-look_for-clause-ran
returns-in_err-look_for-clause-ran g c = stops (looking_for c.args.hand.now.pid c.args.path.first c.args.inode) _ _ c.from_residual.ensures.1 c.in_err-look_for.ensures.ran

pub returns-clause-ran : goal.returns-clause-ran
returns-clause-ran g c =
    let h = rw c.requires at c.read_target.ensures.ran in
    goes_on (looking_for c.args.hand.now.pid c.args.path.first c.args.inode) _ c.in_ok-look_for.ensures.ran (by_pid (λ p. reading_target p c.args.path.first) (ap (λ (b : ℕ × Shown). b.0) c.in_ok-look_for.ensures.bound) h)
