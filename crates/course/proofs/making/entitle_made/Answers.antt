use Rattle.std.proofs.Common.{ℕ, ap}
use Rattle.ids.specs.declared.call.Call.TheVariants as call
use Rattle.machine.specs.Shown.{Shown}
use Rattle.course.specs.Courses.{doing, making}
use Rattle.course.specs.Rights.{both_of}
use Rattle.course.proofs.Runs.{by_pid, goes_on, stops}
use Rattle.course.proofs.making.entitle_made.Goals as goal

pub returns-in_err-do_call-clause-ran : goal.returns-in_err-do_call-clause-ran
returns-in_err-do_call-clause-ran g c =
    let h = rw c.both_of.ensures at c.in_err-do_call.ensures.ran in
    stops (doing c.args.hand.now.pid (call.Chown c.args.again.owned (both_of c.args.rights.owner))) _ _ c.from_residual.ensures.1 h

pub returns-clause-ran : goal.returns-clause-ran
returns-clause-ran g c =
    let h = rw c.both_of.ensures at c.in_ok-do_call.ensures.ran in
    goes_on (doing c.args.hand.now.pid (call.Chown c.args.again.owned (both_of c.args.rights.owner))) _ h (by_pid (λ p. making p (call.Chmod c.args.again.permitted c.args.rights.permissions) c.args.again.told) (ap (λ (b : ℕ × Shown). b.0) c.in_ok-do_call.ensures.bound) c.make_at.ensures.ran)
