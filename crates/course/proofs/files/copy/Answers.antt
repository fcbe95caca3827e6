use Rattle.std.proofs.Common.{ℕ, ap}
use Rattle.std.proofs.lemmas.Int.{to_z-of_z}
use Rattle.machine.specs.Shown.{Shown}
use Rattle.course.specs.Courses.{reading, writing}
use Rattle.course.proofs.Runs.{by_pid, goes_on, stops}
use Rattle.course.proofs.files.copy.Goals as goal

pub returns-in_err-bytes-clause-ran : goal.returns-in_err-bytes-clause-ran
returns-in_err-bytes-clause-ran g c =
    let h = rw (to_z-of_z _ _ c.ranges.offset) at c.in_err-bytes.ensures.ran in
    stops (reading c.args.hand.now.pid c.args.from c.args.count c.args.offset) _ _ c.from_residual.ensures.1 h

pub returns-clause-ran : goal.returns-clause-ran
returns-clause-ran g c =
    let h = rw (to_z-of_z _ _ c.ranges.offset) at c.in_ok-bytes.ensures.ran in
    let k = rw (to_z-of_z _ _ c.ranges.place) at c.write.ensures.ran in
    goes_on (reading c.args.hand.now.pid c.args.from c.args.count c.args.offset) (λ bytes. writing c.args.hand.now.pid c.args.to bytes c.args.place) h (by_pid (λ p. writing p c.args.to c.in_ok-bytes.bytes c.args.place) (ap (λ (b : ℕ × Shown). b.0) c.in_ok-bytes.ensures.bound) k)
