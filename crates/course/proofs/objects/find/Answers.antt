use Rattle.std.proofs.Common.{ℕ, ap}
use Rattle.ids.specs.declared.call.Call.TheVariants as call
use Rattle.machine.specs.Shown.{Shown}
use Rattle.course.specs.Courses.{if_found, stating}
use Rattle.course.proofs.Runs.{by_path, by_pid, goes}
use Rattle.course.proofs.objects.find.Goals as goal

pub returns-in-Some-clause-ran : goal.returns-in-Some-clause-ran
returns-in-Some-clause-ran g c = by_path c.args.hand.now.pid c.args.object.kind c.args.object.inode c.args.object.fd c.args.object.path c.in-Some.path c.in-Some.is (goes (stating c.args.hand.now.pid (call.Lstat c.in-Some.path)) (if_found c.args.hand.now.pid c.args.object.kind c.args.object.inode c.args.object.fd) c.stat_call-looked.ensures.ran (by_pid (λ p. if_found p c.args.object.kind c.args.object.inode c.args.object.fd c.stat_call-looked.result) (ap (λ (b : ℕ × Shown). b.0) c.stat_call-looked.ensures.bound) c.if_found.ensures.ran))
