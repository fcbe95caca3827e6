use Rattle.std.proofs.Common.{◌≡◌, ◌++◌, drop}
use Rattle.records.specs.Ranges.{touch_on, marks_of}
use Rattle.records.proofs.holders.collect_pids.Given as goal

abbrev pub invariant-loop-pid : goal.invariant-loop-pid
invariant-loop-pid l =
    l.found.items ++ marks_of l.caller (touch_on l.aspect l.write) (drop l.pid-index l.pids)
    ≡ l.initial.found.items ++ marks_of l.caller (touch_on l.aspect l.write) l.pids
