use Rattle.std.proofs.Common.{refl, ℕ}
use Rattle.ids.specs.declared.call.Call.TheVariants as call
use Rattle.course.specs.Courses.{doing}
use Rattle.mount_requests.specs.Seen.{seen}
use Rattle.mounted.specs.Served.{told_closed}
use Rattle.mounted.proofs.Staying.{sound_closed, sound_into}
use Rattle.mounted.proofs.Stepping.{ran_into, stands_since, stands_into}
use Rattle.mounted.proofs.serving.Serving.close_file.Goals as goal

pub returns-clause-closes : goal.returns-clause-closes
returns-clause-closes g c = record {
  outcome = told_closed c.close-closed.result;
  served = record {
    closed = c.close-closed.result;
    ran = ran_into c.note_closed.ensures.hand (λ (p : ℕ). doing p (call.Close c.args.file.now.fd)) c.bind.ensures.pid c.bind.ensures.shown c.close-closed.ensures.ran;
    known = c.note_closed.ensures.known;
    is = refl;
  };
  is = c.note_closed.ensures.told;
}

pub returns-clause-sound : goal.returns-clause-sound
returns-clause-sound g c =
    sound_into c.note_closed.ensures.known
    (sound_closed (seen c.args.self.now.tables) c.args.handle c.args.file.now c.close-closed.result
    (stands_into c.note_closed.ensures.hand (stands_since c.close-closed.ensures.bound c.bind.ensures.since c.history-history.ensures.stand)))
