use Rattle.std.proofs.Common.{ℕ, ap}
use Rattle.ids.specs.declared.call.Call.TheVariants as call
use Rattle.machine.specs.Shown.{Shown}
use Rattle.course.specs.Courses.{looking_for, making}
use Rattle.course.proofs.Runs.{by_pid, goes_on, stops}
use Rattle.course.proofs.names.link_at.Goals as goal

pub returns-in_err-look_for-clause-ran : goal.returns-in_err-look_for-clause-ran
returns-in_err-look_for-clause-ran g c = stops (looking_for c.args.hand.now.pid c.args.from.first c.args.inode) _ _ c.from_residual.ensures.1 c.in_err-look_for.ensures.ran

pub returns-clause-ran : goal.returns-clause-ran
returns-clause-ran g c =
    let h = rw (c.requires.from, c.requires.to) at c.make_at.ensures.ran in
    goes_on (looking_for c.args.hand.now.pid c.args.from.first c.args.inode) _ c.in_ok-look_for.ensures.ran (by_pid (λ p. making p (call.Link c.args.from.first c.args.to.first) c.args.to.first) (ap (λ (b : ℕ × Shown). b.0) c.in_ok-look_for.ensures.bound) h)
