use Rattle.std.proofs.Common.{ℕ, ap}
use Rattle.machine.specs.Shown.{Shown}
use Rattle.course.specs.Courses.{closing, cutting, if_cut, unless_new}
use Rattle.course.proofs.Runs.{by_pid, done, goes}
use Rattle.course.proofs.made.cut_made.Goals as goal

pub returns-in-Ok-clause-ran : goal.returns-in-Ok-clause-ran
returns-in-Ok-clause-ran g c =
    let h = rw c.unless_new-how.ensures at c.in-Ok.ensures.ran in
    goes (cutting c.args.hand.now.pid c.args.made.fd (unless_new c.args.made.is_new c.args.cut)) (if_cut c.args.hand.now.pid c.args.made.fd c.args.made) h done

pub returns-in-Err-clause-ran : goal.returns-in-Err-clause-ran
returns-in-Err-clause-ran g c =
    let h = rw c.unless_new-how.ensures at c.in-Err.ensures.ran in
    goes (cutting c.args.hand.now.pid c.args.made.fd (unless_new c.args.made.is_new c.args.cut)) (if_cut c.args.hand.now.pid c.args.made.fd c.args.made) h (by_pid (λ p. closing p c.args.made.fd c.in-Err.fault) (ap (λ (b : ℕ × Shown). b.0) c.in-Err.ensures.bound) c.close_for.ensures.ran)
