use Rattle.std.proofs.Common.{◌≤◌, ◌<◌, [], length, refl, arith, rules}
use Rattle.script.specs.declared.limits.TheConstants.{SCRIPT_LIMIT}
use Rattle.transcript.proofs.Laws.{Prints-none}
use Rattle.stream.proofs.Parting.{Comes-feed, Stops-byte, Takes-full, Takes-kept}
use Rattle.stream.proofs.state.Stream.take_byte.Goals as goal

pub returns-then-byte-eq10-clause-answers : goal.returns-then-byte-eq10-clause-answers
returns-then-byte-eq10-clause-answers g c =
    let ended = c.end_line.ensures.answers in
    (ended.0, ended.1, Comes-feed g.K.Machine.shown c.args.setting c.args.byte ended.0 _ _ c.end_line.result c.if-byte-eq10.true ended.2)

pub returns-then-len-gt-SCRIPT_LIMIT-clause-answers : goal.returns-then-len-gt-SCRIPT_LIMIT-clause-answers
returns-then-len-gt-SCRIPT_LIMIT-clause-answers g c =
    let stream = c.args.self.now in
    let full : SCRIPT_LIMIT < length stream.line.items = omega (arith, stream.line.ok.0) in
    ([], Prints-none _ _ _, λ seen at. Takes-full g.K.Machine.shown c.args.setting seen c.args.byte stream at c.if-byte-eq10.false full)

pub returns-in-Ok-clause-answers : goal.returns-in-Ok-clause-answers
returns-in-Ok-clause-answers g c =
    let stream = c.args.self.now in
    let short : length stream.line.items ≤ SCRIPT_LIMIT = omega (arith, stream.line.ok.0) in (
      [],
      Prints-none _ _ _,
      λ seen at.
          Takes-kept g.K.Machine.shown c.args.setting seen c.args.byte stream _ at (record { kernel = refl; follower = refl; number = refl; good = refl })
          c.if-byte-eq10.false short (search rules),
    )

pub returns-in-Err-clause-answers : goal.returns-in-Err-clause-answers
returns-in-Err-clause-answers g c = ([], Prints-none _ _ _, λ seen at. Stops-byte g.K.Machine.shown c.args.setting seen c.args.byte c.args.self.now _ at refl)
