use Rattle.std.proofs.Common.{rules}
use Rattle.machine.specs.Shown.{moment}
use Rattle.recording.proofs.Keeping.{idle_at_start, none_at_start}
use Rattle.recording.proofs.notes.Notes.new.Goals as goal

pub returns-clause-keep : goal.returns-clause-keep
returns-clause-keep c = λ log none. record {
  follows = c.new-recorder.ensures (moment log) (idle_at_start log none);
  waiting = none_at_start log none _ (search rules);
}
