use Rattle.std.proofs.Common.{ℕ, List}
use Rattle.machine.specs.Shown.{Kept}
use Rattle.commit_log.specs.Reader.{disk_of}
use Rattle.commit_log.specs.Reads.{IsClean, OnlyReads}
use Rattle.recovery.specs.Going.{Goes}
use Rattle.recovery.proofs.replaying.replay_rest.Given as goal

-- what was read so far was made again
abbrev pub invariant-loop : goal.invariant-loop
invariant-loop g l = record {
  kept : Kept (g.M.Machine.shown l.machine);
  same : OnlyReads g.D.Disk (disk_of l.fn.reader) (disk_of l.reader);
  goes : IsClean g.D.Disk (disk_of l.reader) → (payloads : List (List ℕ)) → Goes g.D.Disk l.fn.reader (g.M.Machine.shown l.fn.machine).log payloads → Goes g.D.Disk l.reader (g.M.Machine.shown l.machine).log payloads;
}
