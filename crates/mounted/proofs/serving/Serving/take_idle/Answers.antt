use Rattle.mounted.proofs.Staying.{roles_from}
use Rattle.mounted.proofs.serving.Serving.take_idle.Goals as goal

pub returns-in-None-clause-sound : goal.returns-in-None-clause-sound
returns-in-None-clause-sound g c = roles_from c.take.ensures.roles c.make_process.ensures.sound
