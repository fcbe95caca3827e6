use Rattle.std.proofs.Common.{ℕ, false, sym, ap, ◌∙◌}
use Rattle.machine.specs.Shown.{Shown}
use Rattle.course.specs.Courses.{opening_file, seeing}
use Rattle.course.proofs.Runs.{by_pid, goes_on, stops, there}
use Rattle.course.proofs.files.go_on.Goals as goal

pub returns-in_err-fd-in-Err-clause-ran : goal.returns-in_err-fd-in-Err-clause-ran
returns-in_err-fd-in-Err-clause-ran g c = there c.args.hand.now.pid c.args.path c.args.exclusive c.args.rights c.in-Err.fault c.args.opened c.in-Err.is c.if-exclusive.false (sym c.is_there.ensures ∙ c.if-not-is_there.false) (stops (opening_file c.args.hand.now.pid c.args.path) (seeing c.args.hand.now.pid false) _ c.from_residual.ensures.1 c.in_err-fd-in-Err.ensures.ran)

pub returns-in_ok-fd-in-Err-clause-ran : goal.returns-in_ok-fd-in-Err-clause-ran
returns-in_ok-fd-in-Err-clause-ran g c = there c.args.hand.now.pid c.args.path c.args.exclusive c.args.rights c.in-Err.fault c.args.opened c.in-Err.is c.if-exclusive.false (sym c.is_there.ensures ∙ c.if-not-is_there.false) (goes_on (opening_file c.args.hand.now.pid c.args.path) (seeing c.args.hand.now.pid false) c.in_ok-fd-in-Err.ensures.ran (by_pid (λ p. seeing p false c.in_ok-fd-in-Err.fd) (ap (λ (b : ℕ × Shown). b.0) c.in_ok-fd-in-Err.ensures.bound) c.see.ensures.ran))
