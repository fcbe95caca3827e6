use Rattle.ids.specs.declared.call.Call.TheVariants as call
use Rattle.course.specs.Courses.{same_or_stale, stating}
use Rattle.course.proofs.Runs.{gives}
use Rattle.course.proofs.names.look_for.Goals as goal

pub returns-clause-ran : goal.returns-clause-ran
returns-clause-ran g c = gives (stating c.args.hand.now.pid (call.Lstat c.args.path)) (same_or_stale c.args.inode) c.stat_path-looked.ensures.ran c.same_or_stale.ensures
