use Rattle.std.proofs.Common.{ℕ, ap}
use Rattle.machine.specs.Shown.{Shown}
use Rattle.course.specs.Courses.{finding, updating_by}
use Rattle.course.proofs.Runs.{by_pid, goes_on, stops}
use Rattle.course.proofs.updates.apply_update.Goals as goal

pub returns-in_err-update_by-clause-ran : goal.returns-in_err-update_by-clause-ran
returns-in_err-update_by-clause-ran g c = stops (updating_by c.args.hand.now.pid c.args.object.inode c.args.object.fd c.args.paths c.args.update) _ _ c.from_residual.ensures.1 c.in_err-update_by.ensures.ran

pub returns-clause-ran : goal.returns-clause-ran
returns-clause-ran g c = goes_on (updating_by c.args.hand.now.pid c.args.object.inode c.args.object.fd c.args.paths c.args.update) _ c.in_ok-update_by.ensures.ran (by_pid (λ p. finding p c.args.object) (ap (λ (b : ℕ × Shown). b.0) c.in_ok-update_by.ensures.bound) c.find.ensures.ran)
