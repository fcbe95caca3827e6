use Rattle.commit_log.specs.Reader.{disk_of}
use Rattle.recovery.proofs.Laws.{reads_both, reads_same}
use Rattle.store_stream.proofs.opening.replay_rest.Goals as goal

pub loop-init : goal.loop-init
loop-init g c = record {
  kept = c.requires;
  same = reads_same g.D.Disk (disk_of c.args.reader.now) c.args.reader.now.usable;
}
