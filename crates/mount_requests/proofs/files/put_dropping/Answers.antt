use Rattle.std.proofs.Common.{ℕ, ap}
use Rattle.machine.specs.Shown.{Shown}
use Rattle.course.specs.Courses.{dropping_if}
use Rattle.course.proofs.Runs.{by_pid, goes_on, stops}
use Rattle.mount_requests.specs.Requests.{put_by}
use Rattle.mount_requests.proofs.files.put_dropping.Goals as goal

pub returns-in_err-drop_if-clause-ran : goal.returns-in_err-drop_if-clause-ran
returns-in_err-drop_if-clause-ran g c = stops (dropping_if c.args.hand.now.pid c.args.writing.fd c.args.dropping) _ _ c.from_residual.ensures.1 c.in_err-drop_if.ensures.ran

pub returns-clause-ran : goal.returns-clause-ran
returns-clause-ran g c = goes_on (dropping_if c.args.hand.now.pid c.args.writing.fd c.args.dropping) _ c.in_ok-drop_if.ensures.ran (by_pid (λ p. put_by p c.args.bytes c.args.writing.fd c.args.writing.offset) (ap (λ (b : ℕ × Shown). b.0) c.in_ok-drop_if.ensures.bound) c.put.ensures.ran)
