use Rattle.std.proofs.Common.{ℕ, ap}
use Rattle.machine.specs.Shown.{Shown}
use Rattle.course.specs.Courses.{checking, opening_file}
use Rattle.course.proofs.Runs.{by_pid, goes_on, stops}
use Rattle.course.proofs.files.open_this.Goals as goal

pub returns-in_err-fd-clause-ran : goal.returns-in_err-fd-clause-ran
returns-in_err-fd-clause-ran g c = stops (opening_file c.args.hand.now.pid c.args.path) _ _ c.from_residual.ensures.1 c.in_err-fd.ensures.ran

pub returns-clause-ran : goal.returns-clause-ran
returns-clause-ran g c = goes_on (opening_file c.args.hand.now.pid c.args.path) _ c.in_ok-fd.ensures.ran (by_pid (λ p. checking p c.in_ok-fd.fd c.args.inode) (ap (λ (b : ℕ × Shown). b.0) c.in_ok-fd.ensures.bound) c.check_open.ensures.ran)
