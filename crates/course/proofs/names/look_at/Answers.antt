use Rattle.ids.specs.declared.call.Call.TheVariants as call
use Rattle.course.specs.Courses.{stating, told_or_stale}
use Rattle.course.proofs.Runs.{gives}
use Rattle.course.proofs.names.look_at.Goals as goal

pub returns-clause-ran : goal.returns-clause-ran
returns-clause-ran g c = gives (stating c.args.hand.now.pid (call.Lstat c.args.place.path)) (told_or_stale c.args.place.inode) c.stat_path-looked.ensures.ran c.told_or_stale.ensures
