use Rattle.std.proofs.Common.{refl, ◌∙◌}
use Rattle.course.specs.Courses.{forking}
use Rattle.mounted.proofs.Staying.{roles_made_as, roles_same}
use Rattle.mounted.proofs.Stepping.{child_as, ran_as, stands_since}
use Rattle.mounted.proofs.serving.Serving.make_process.Goals as goal

pub returns-in-Ok-clause-made : goal.returns-in-Ok-clause-made
returns-in-Ok-clause-made g c = ran_as forking (c.bind.ensures.pid ∙ c.first_process.ensures) c.bind.ensures.shown c.in-Ok.is c.fork-made.ensures.ran

pub returns-in-Ok-clause-sound : goal.returns-in-Ok-clause-sound
returns-in-Ok-clause-sound g c =
    roles_made_as c.args.level c.in-Ok.pid c.args.role c.requires.level c.requires.role
    (child_as c.fork-made.ensures.child c.in-Ok.is (c.bind.ensures.pid ∙ c.first_process.ensures) c.bind.ensures.shown)
    (stands_since c.fork-made.ensures.bound c.bind.ensures.since c.history-history.ensures.stand) c.add.ensures

pub returns-in-Err-clause-lacking : goal.returns-in-Err-clause-lacking
returns-in-Err-clause-lacking g c = (c.in-Err.fault, ran_as forking (c.bind.ensures.pid ∙ c.first_process.ensures) c.bind.ensures.shown c.in-Err.is c.fork-made.ensures.ran, refl, c.from.ensures)

pub returns-in-Err-clause-sound : goal.returns-in-Err-clause-sound
returns-in-Err-clause-sound g c = roles_same refl (stands_since c.fork-made.ensures.bound c.bind.ensures.since c.history-history.ensures.stand)
