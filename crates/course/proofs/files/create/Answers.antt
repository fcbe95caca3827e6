use Rattle.std.proofs.Common.{ℕ, ap}
use Rattle.machine.specs.Shown.{Shown}
use Rattle.course.specs.Courses.{fresh, if_there, opening}
use Rattle.course.proofs.Runs.{by_pid, goes}
use Rattle.course.proofs.files.create.Goals as goal

pub returns-clause-ran : goal.returns-clause-ran
returns-clause-ran g c =
    let h = rw c.fresh.ensures at c.open-opened.ensures.ran in
    goes (opening c.args.hand.now.pid c.args.path fresh) (if_there c.args.hand.now.pid c.args.again c.args.exclusive c.args.rights) h (by_pid (λ p. if_there p c.args.again c.args.exclusive c.args.rights c.open-opened.result) (ap (λ (b : ℕ × Shown). b.0) c.open-opened.ensures.bound) c.go_on.ensures.ran)
