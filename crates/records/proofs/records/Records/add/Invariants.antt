use Rattle.std.proofs.Common.{◌≡◌, set}
use Rattle.records.specs.Touches.{touched_by, with_touches}
use Rattle.records.proofs.records.Records.add.Given as goal

abbrev pub invariant-loop-touch : goal.invariant-loop-touch
invariant-loop-touch l = l.self ≡ set l.initial.self l.pid (with_touches (touched_by l.initial.self l.pid) l.yielded)
