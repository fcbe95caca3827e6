use Rattle.std.proofs.Common.{refl}
use Rattle.mount_requests.specs.Seen.{seen}
use Rattle.mounted.proofs.Staying.{sound_aborted, sound_into, sound_same}
use Rattle.mounted.proofs.Stepping.{stands_since}
use Rattle.mounted.proofs.serving.Serving.learn.Goals as goal

pub returns-in-Some-clause-sound : goal.returns-in-Some-clause-sound
returns-in-Some-clause-sound g c =
    sound_into c.note_abort.ensures
    (sound_aborted (seen c.args.self.now.tables) c.in-Some.why c.args.view (stands_since c.look_nowhere-reply.ensures.bound c.bind.ensures.since c.history-history.ensures.stand))

pub returns-in_default-clause-sound : goal.returns-in_default-clause-sound
returns-in_default-clause-sound g c = sound_same refl (stands_since c.look_nowhere-reply.ensures.bound c.bind.ensures.since c.history-history.ensures.stand)
