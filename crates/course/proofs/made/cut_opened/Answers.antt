use Rattle.std.proofs.Common.{ℕ, ap}
use Rattle.machine.specs.Shown.{Shown}
use Rattle.course.specs.Courses.{closing, cutting, if_cut}
use Rattle.course.proofs.Runs.{by_pid, done, goes}
use Rattle.course.proofs.made.cut_opened.Goals as goal

pub returns-in-Ok-clause-ran : goal.returns-in-Ok-clause-ran
returns-in-Ok-clause-ran g c = goes (cutting c.args.hand.now.pid c.args.fd c.args.cut) (if_cut c.args.hand.now.pid c.args.fd c.args.fd) c.in-Ok.ensures.ran done

pub returns-in-Err-clause-ran : goal.returns-in-Err-clause-ran
returns-in-Err-clause-ran g c = goes (cutting c.args.hand.now.pid c.args.fd c.args.cut) (if_cut c.args.hand.now.pid c.args.fd c.args.fd) c.in-Err.ensures.ran (by_pid (λ p. closing p c.args.fd c.in-Err.fault) (ap (λ (b : ℕ × Shown). b.0) c.in-Err.ensures.bound) c.close_for.ensures.ran)
