use Rattle.std.proofs.Common.{ℕ, ap}
use Rattle.machine.specs.Shown.{Shown}
use Rattle.course.specs.Courses.{closing_spare, creating_in, making_inside}
use Rattle.course.proofs.Runs.{by_pid, goes_on, stops}
use Rattle.mount_requests.proofs.Answering.{spare_by}
use Rattle.mount_requests.proofs.tables.Tables.make_open.Goals as goal

pub returns-in_err-made-clause-ran : goal.returns-in_err-made-clause-ran
returns-in_err-made-clause-ran g c =
    stops (making_inside c.args.hand.now.pid c.args.wanted.parent (creating_in c.args.hand.now.pid c.args.wanted.path c.args.wanted.again.told c.args.creation.exclusive c.args.creation.cut c.args.creation.given)) _ _ c.from_residual.ensures.1 c.in_err-made.ensures.ran

pub returns-clause-ran : goal.returns-clause-ran
returns-clause-ran g c =
    goes_on (making_inside c.args.hand.now.pid c.args.wanted.parent (creating_in c.args.hand.now.pid c.args.wanted.path c.args.wanted.again.told c.args.creation.exclusive c.args.creation.cut c.args.creation.given)) _ c.in_ok-made.ensures.ran
    (spare_by c.args.hand.now.pid _ _ c.in_ok-made.made c.is_open-is_open.ensures (by_pid (λ p. closing_spare p c.is_open-is_open.result c.in_ok-made.made) (ap (λ (b : ℕ × Shown). b.0) c.in_ok-made.ensures.bound) c.close_spare.ensures.ran))
