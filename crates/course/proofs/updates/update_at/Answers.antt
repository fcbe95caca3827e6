use Rattle.std.proofs.Common.{ℕ, ap}
use Rattle.machine.specs.Shown.{Shown}
use Rattle.course.specs.Courses.{changing_at, looking_for}
use Rattle.course.proofs.Runs.{by_pid, goes_on, stops}
use Rattle.course.proofs.updates.update_at.Goals as goal

pub returns-in_err-look_for-clause-ran : goal.returns-in_err-look_for-clause-ran
returns-in_err-look_for-clause-ran g c = stops (looking_for c.args.hand.now.pid c.args.paths.looked c.args.inode) _ _ c.from_residual.ensures.1 c.in_err-look_for.ensures.ran

pub returns-clause-ran : goal.returns-clause-ran
returns-clause-ran g c = goes_on (looking_for c.args.hand.now.pid c.args.paths.looked c.args.inode) _ c.in_ok-look_for.ensures.ran (by_pid (λ p. changing_at p c.args.paths.sized c.args.paths.owned c.args.paths.permitted c.args.update) (ap (λ (b : ℕ × Shown). b.0) c.in_ok-look_for.ensures.bound) c.change_at.ensures.ran)
