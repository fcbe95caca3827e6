use Rattle.std.proofs.Common.{ℕ, true, ap}
use Rattle.machine.specs.Shown.{Shown}
use Rattle.course.specs.Courses.{creating, done_with}
use Rattle.course.proofs.Runs.{by_pid, goes_on, stops}
use Rattle.course.proofs.made.make_file_at.Goals as goal

pub returns-in_err-made-clause-ran : goal.returns-in_err-made-clause-ran
returns-in_err-made-clause-ran g c = stops (creating c.args.hand.now.pid c.args.path c.args.again true c.args.rights) _ _ c.from_residual.ensures.1 c.in_err-made.ensures.ran

pub returns-clause-ran : goal.returns-clause-ran
returns-clause-ran g c = goes_on (creating c.args.hand.now.pid c.args.path c.args.again true c.args.rights) _ c.in_ok-made.ensures.ran (by_pid (λ p. done_with p c.in_ok-made.made.fd c.in_ok-made.made.stat) (ap (λ (b : ℕ × Shown). b.0) c.in_ok-made.ensures.bound) c.close_made.ensures.ran)
