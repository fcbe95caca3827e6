use Rattle.std.proofs.Common.{ℕ, ap}
use Rattle.ids.specs.declared.call.Call.TheVariants as call
use Rattle.machine.specs.Shown.{Shown}
use Rattle.course.specs.Courses.{if_listed, stating}
use Rattle.course.proofs.Runs.{by_pid, goes, listed_by}
use Rattle.course.proofs.objects.list_at.Goals as goal

pub returns-in-Some-clause-ran : goal.returns-in-Some-clause-ran
returns-in-Some-clause-ran g c = listed_by c.args.hand.now.pid c.args.inode c.args.path c.in-Some.path c.in-Some.is c.requires (goes (stating c.args.hand.now.pid (call.Lstat c.in-Some.path.first)) (if_listed c.args.hand.now.pid c.in-Some.path.second c.args.inode) c.stat_call-looked.ensures.ran (by_pid (λ p. if_listed p c.in-Some.path.second c.args.inode c.stat_call-looked.result) (ap (λ (b : ℕ × Shown). b.0) c.stat_call-looked.ensures.bound) c.if_listed.ensures.ran))
