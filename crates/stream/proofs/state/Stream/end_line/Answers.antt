use Rattle.std.proofs.Common.{[], refl}
use Rattle.transcript.proofs.Laws.{Prints-none}
use Rattle.stream.proofs.Parting.{Stops-line, Takes-line}
use Rattle.stream.proofs.state.Stream.end_line.Goals as goal

pub returns-in-Ok-clause-answers : goal.returns-in-Ok-clause-answers
returns-in-Ok-clause-answers g c =
    let told = c.tell.ensures in (
      told.0,
      told.1,
      λ seen at.
          Takes-line g.K.Machine.shown c.args.setting seen c.args.self.now c.hear.new.self _ c.in-Ok.heard told.0 at c.in-Ok.ensures.ok told.2
          (record { kernel = refl; follower = refl; line = c.clear.ensures.items; number = c.saturating_add-self.ensures; good = c.stays_good-self.ensures }),
    )

pub returns-in-Err-clause-answers : goal.returns-in-Err-clause-answers
returns-in-Err-clause-answers g c =
    ([], Prints-none _ _ _, λ seen at. Stops-line g.K.Machine.shown c.args.setting seen c.args.self.now c.hear.new.self c.in-Err.fault at c.in-Err.ensures.err)
