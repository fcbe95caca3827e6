use Rattle.machine.specs.Shown.{Kept}
use Rattle.commit_log.specs.Reader.{disk_of}
use Rattle.commit_log.specs.Reads.{OnlyReads}
use Rattle.store_stream.proofs.opening.replay_rest.Given as goal

-- the machine's history is legal, and the disk was only read
abbrev pub invariant-loop : goal.invariant-loop
invariant-loop g l = record {
  kept : Kept l.machine.shown;
  same : OnlyReads g.D.Disk (disk_of l.fn.reader) (disk_of l.reader);
}
