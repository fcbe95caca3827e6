use Rattle.std.proofs.Common.{◌≡◌, ◌≤◌, length, set, take, min}
use Rattle.records.specs.Touches.{touched_by}
use Rattle.records.proofs.records.Records.keep_first.Given as goal

abbrev pub invariant-loop-pid : goal.invariant-loop-pid
invariant-loop-pid l = record {
  part : l.self ≡ set l.initial.self l.pid (take (length (touched_by l.self l.pid)) (touched_by l.initial.self l.pid));
  within : length (touched_by l.self l.pid) ≤ length (touched_by l.initial.self l.pid);
  enough : min l.count (length (touched_by l.initial.self l.pid)) ≤ length (touched_by l.self l.pid);
}

abbrev pub decreases-loop-pid : goal.decreases-loop-pid
decreases-loop-pid l = length (touched_by l.self l.pid)
