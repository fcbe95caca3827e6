use Rattle.std.proofs.Common.{ℕ, ap}
use Rattle.machine.specs.Shown.{Shown}
use Rattle.course.specs.Courses.{cut_opened, opening_this}
use Rattle.course.proofs.Runs.{by_pid, goes_on, stops}
use Rattle.course.proofs.made.open_cut.Goals as goal

pub returns-in_err-fd-clause-ran : goal.returns-in_err-fd-clause-ran
returns-in_err-fd-clause-ran g c = stops (opening_this c.args.hand.now.pid c.args.path c.args.inode) _ _ c.from_residual.ensures.1 c.in_err-fd.ensures.ran

pub returns-clause-ran : goal.returns-clause-ran
returns-clause-ran g c = goes_on (opening_this c.args.hand.now.pid c.args.path c.args.inode) _ c.in_ok-fd.ensures.ran (by_pid (λ p. cut_opened p c.args.cut c.in_ok-fd.fd) (ap (λ (b : ℕ × Shown). b.0) c.in_ok-fd.ensures.bound) c.cut_opened.ensures.ran)
