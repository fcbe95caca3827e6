use Rattle.std.proofs.Common.{ℕ, true, ap}
use Rattle.std.specs.Prelude.{Some}
use Rattle.machine.specs.Shown.{Shown}
use Rattle.course.specs.Courses.{closing, entitling_open, if_entitled, seeing}
use Rattle.course.specs.Rights.{both_of}
use Rattle.course.proofs.Runs.{by_pid, goes}
use Rattle.course.proofs.files.see_new.Goals as goal

pub returns-in-Ok-clause-ran : goal.returns-in-Ok-clause-ran
returns-in-Ok-clause-ran g c =
    let h = rw c.both_of-owner.ensures at c.in-Ok.ensures.ran in
    goes (entitling_open c.args.hand.now.pid c.args.fd (Some (both_of c.args.rights.owner)) (Some c.args.rights.permissions)) (if_entitled c.args.hand.now.pid c.args.fd) h (by_pid (λ p. seeing p true c.args.fd) (ap (λ (b : ℕ × Shown). b.0) c.in-Ok.ensures.bound) c.see.ensures.ran)

pub returns-in-Err-clause-ran : goal.returns-in-Err-clause-ran
returns-in-Err-clause-ran g c =
    let h = rw c.both_of-owner.ensures at c.in-Err.ensures.ran in
    goes (entitling_open c.args.hand.now.pid c.args.fd (Some (both_of c.args.rights.owner)) (Some c.args.rights.permissions)) (if_entitled c.args.hand.now.pid c.args.fd) h (by_pid (λ p. closing p c.args.fd c.in-Err.fault) (ap (λ (b : ℕ × Shown). b.0) c.in-Err.ensures.bound) c.close_for.ensures.ran)
