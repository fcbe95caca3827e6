use Rattle.std.proofs.Common.{◌≡◌, ℕ, ap, subst}
use Rattle.ids.specs.declared.call.Op.TheVariants as op
use Rattle.ids.specs.declared.flags.BeginFlags.{BeginFlags}
use Rattle.course.specs.Course.{IsTaken, step}
use Rattle.course.specs.Courses.{plainly}
use Rattle.course.specs.Faults.{begun_in}
use Rattle.course.proofs.Runs.{gives, one}
use Rattle.course.proofs.transactions.begin.Goals as goal

abbrev flags : ℕ → BeginFlags
flags n = record { 0 = n }

pub returns-clause-ran : goal.returns-clause-ran
returns-clause-ran g c =
    let none : c.none.result ≡ plainly = ap flags c.none.ensures in
    gives (step c.args.hand.now.pid (op.Begin plainly)) begun_in
    (one c.args.hand.now.pid (op.Begin plainly) (subst (λ (f : BeginFlags). IsTaken c.args.hand.now.shown c.step-reply.new.self.shown c.args.hand.now.pid (op.Begin f) c.step-reply.result) none c.step-reply.ensures.taken))
    c.begun_in.ensures
