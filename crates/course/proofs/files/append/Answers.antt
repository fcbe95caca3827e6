use Rattle.std.proofs.Common.{ℕ, ap, rules, FitsSigned, w64}
use Rattle.std.proofs.lemmas.Int.{to_z-of_z}
use Rattle.std.specs.Prelude.{pos}
use Rattle.ids.specs.declared.call.Call.TheVariants as call
use Rattle.machine.specs.Shown.{Shown}
use Rattle.course.specs.Courses.{stating, writing}
use Rattle.course.proofs.Runs.{by_pid, goes_on, stops}
use Rattle.course.proofs.files.append.Goals as goal

pub returns-in_err-stat-clause-ran : goal.returns-in_err-stat-clause-ran
returns-in_err-stat-clause-ran g c = stops (stating c.args.hand.now.pid (call.Fstat c.args.fd)) _ _ c.from_residual.ensures.1 c.in_err-stat.ensures.ran

pub returns-clause-ran : goal.returns-clause-ran
returns-clause-ran g c =
    let fits : FitsSigned w64 c.offset_of.result = search rules in
    let w = rw (to_z-of_z _ _ fits) at c.write.ensures.ran in
    let h = rw c.offset_of.ensures at w in
    goes_on (stating c.args.hand.now.pid (call.Fstat c.args.fd)) (λ stat. writing c.args.hand.now.pid c.args.fd c.args.bytes (pos stat.size)) c.in_ok-stat.ensures.ran (by_pid (λ p. writing p c.args.fd c.args.bytes (pos c.in_ok-stat.stat.size)) (ap (λ (b : ℕ × Shown). b.0) c.in_ok-stat.ensures.bound) h)
