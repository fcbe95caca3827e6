use Rattle.mount_requests.specs.Seen.{seen}
use Rattle.mounted.proofs.Staying.{sound_ended, sound_into}
use Rattle.mounted.proofs.Stepping.{grown_into, grown_since, stands_into, stands_since}
use Rattle.mounted.proofs.serving.Serving.obey.Goals as goal

pub returns-clause-stand : goal.returns-clause-stand
returns-clause-stand g c = stands_into c.note_order.ensures.hand (stands_since c.obey_by-outcome.ensures.bound c.bind.ensures.since c.history-history.ensures.stand)

pub returns-clause-grows : goal.returns-clause-grows
returns-clause-grows g c = grown_into c.note_order.ensures.hand (grown_since c.obey_by-outcome.ensures.bound c.bind.ensures.since c.history-history.ensures.since)

pub returns-clause-sound : goal.returns-clause-sound
returns-clause-sound g c =
    sound_into c.note_order.ensures.ended
    (sound_ended (seen c.args.self.now.tables) c.args.view c.args.order c.obey_by-outcome.result
    (stands_into c.note_order.ensures.hand (stands_since c.obey_by-outcome.ensures.bound c.bind.ensures.since c.history-history.ensures.stand)))
