use Rattle.std.proofs.Common.{refl}
use Rattle.course.specs.Courses.{giving_up}
use Rattle.mounted.proofs.Staying.{sound_same}
use Rattle.mounted.proofs.Stepping.{ran_by, stands_since}
use Rattle.mounted.proofs.serving.Serving.give_up_by.Goals as goal

pub returns-clause-gave : goal.returns-clause-gave
returns-clause-gave g c = (c.give_up-given_up.result, ran_by giving_up c.bind.ensures.pid c.bind.ensures.shown c.give_up-given_up.ensures.ran, c.gone.ensures)

pub returns-clause-sound : goal.returns-clause-sound
returns-clause-sound g c = sound_same refl (stands_since c.give_up-given_up.ensures.bound c.bind.ensures.since c.history-history.ensures.stand)
