use Rattle.std.proofs.Common.{ℕ, sym, ap, ◌∙◌}
use Rattle.ids.specs.declared.call.Call.TheVariants as call
use Rattle.machine.specs.Shown.{Shown}
use Rattle.course.specs.Courses.{doing, if_absent, stating}
use Rattle.course.proofs.Runs.{by_pid, done, failing, goes, missing}
use Rattle.course.proofs.names.move_if_absent.Goals as goal

pub returns-in-Ok-clause-ran : goal.returns-in-Ok-clause-ran
returns-in-Ok-clause-ran g c =
    let h = rw c.requires at c.in-Ok.ensures.ran in
    goes (stating c.args.hand.now.pid (call.Lstat c.args.to)) (if_absent c.args.hand.now.pid c.args.from c.args.to) h done

pub returns-then-is_missing-clause-ran : goal.returns-then-is_missing-clause-ran
returns-then-is_missing-clause-ran g c =
    let h = rw c.requires at c.in-Err.ensures.ran in
    goes (stating c.args.hand.now.pid (call.Lstat c.args.to)) (if_absent c.args.hand.now.pid c.args.from c.args.to) h (missing c.args.hand.now.pid c.args.from c.args.to c.in-Err.fault (sym c.is_missing.ensures ∙ c.if-is_missing.true) (by_pid (λ p. doing p (call.Rename c.args.from c.args.to)) (ap (λ (b : ℕ × Shown). b.0) c.in-Err.ensures.bound) c.do_call.ensures.ran))

pub returns-else-is_missing-clause-ran : goal.returns-else-is_missing-clause-ran
returns-else-is_missing-clause-ran g c =
    let h = rw c.requires at c.in-Err.ensures.ran in
    goes (stating c.args.hand.now.pid (call.Lstat c.args.to)) (if_absent c.args.hand.now.pid c.args.from c.args.to) h (failing c.args.hand.now.pid c.args.from c.args.to c.in-Err.fault (sym c.is_missing.ensures ∙ c.if-is_missing.false))
