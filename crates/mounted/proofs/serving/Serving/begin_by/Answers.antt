use Rattle.std.proofs.Common.{refl}
use Rattle.course.specs.Courses.{beginning}
use Rattle.mount_requests.specs.Seen.{seen}
use Rattle.mounted.specs.Controls.NotBegun.{NotDone}
use Rattle.mounted.proofs.Beginning.{not_made}
use Rattle.mounted.proofs.Staying.{roles_same, roles_then}
use Rattle.mounted.proofs.Stepping.{ran_as, stands_since}
use Rattle.mounted.proofs.serving.Serving.begin_by.Goals as goal

pub returns-in_err-pid-clause-not_begun : goal.returns-in_err-pid-clause-not_begun
returns-in_err-pid-clause-not_begun g c = not_made (seen c.args.self.now.tables) (seen c.take_idle.new.self.tables) c.args.level _ c.from_residual.ensures.1 c.in_err-pid.ensures.lacking

pub returns-in-Ok-clause-begun : goal.returns-in-Ok-clause-begun
returns-in-Ok-clause-begun g c = (c.take_idle.new.self.hand.shown, c.in_ok-pid.ensures.taken, ran_as beginning c.bind.ensures.pid c.bind.ensures.shown c.in-Ok.is c.begin-begun.ensures.ran)

pub returns-in-Ok-clause-sound : goal.returns-in-Ok-clause-sound
returns-in-Ok-clause-sound g c = roles_then c.take_idle.ensures.sound (roles_same refl (stands_since c.begin-begun.ensures.bound c.bind.ensures.since c.history-history.ensures.stand))

pub returns-in-Err-clause-not_begun : goal.returns-in-Err-clause-not_begun
returns-in-Err-clause-not_begun g c = NotDone c.in_ok-pid.pid c.take_idle.new.self.hand.shown c.in-Err.fault c.in_ok-pid.ensures.taken (ran_as beginning c.bind.ensures.pid c.bind.ensures.shown c.in-Err.is c.begin-begun.ensures.ran) c.from.ensures

pub returns-in-Err-clause-sound : goal.returns-in-Err-clause-sound
returns-in-Err-clause-sound g c = roles_then c.take_idle.ensures.sound (roles_same refl (stands_since c.begin-begun.ensures.bound c.bind.ensures.since c.history-history.ensures.stand))
