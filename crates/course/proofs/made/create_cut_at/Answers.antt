use Rattle.std.proofs.Common.{ℕ, ap}
use Rattle.machine.specs.Shown.{Shown}
use Rattle.course.specs.Courses.{creating, cut_made}
use Rattle.course.proofs.Runs.{by_pid, goes_on, stops}
use Rattle.course.proofs.made.create_cut_at.Goals as goal

pub returns-in_err-made-clause-ran : goal.returns-in_err-made-clause-ran
returns-in_err-made-clause-ran g c = stops (creating c.args.hand.now.pid c.args.path c.args.again c.args.exclusive c.args.rights) _ _ c.from_residual.ensures.1 c.in_err-made.ensures.ran

pub returns-clause-ran : goal.returns-clause-ran
returns-clause-ran g c = goes_on (creating c.args.hand.now.pid c.args.path c.args.again c.args.exclusive c.args.rights) _ c.in_ok-made.ensures.ran (by_pid (λ p. cut_made p c.args.cut c.in_ok-made.made) (ap (λ (b : ℕ × Shown). b.0) c.in_ok-made.ensures.bound) c.cut_made.ensures.ran)
