use Rattle.commit_log.specs.Reader.{disk_of}
use Rattle.recovery.proofs.Going.{reads_both}
use Rattle.recovery.proofs.replaying.replay.Goals as goal

pub returns-clause-replayed : goal.returns-clause-replayed
returns-clause-replayed g c clean payloads is_at =
    c.in_ok-replay_rest.ensures.replayed clean payloads (c.in_ok-machine.ensures.goes (c.replay_rest.ensures.same.clean clean) payloads is_at)

pub returns-clause-same : goal.returns-clause-same
returns-clause-same g c = reads_both g.D.Disk (disk_of c.args.reader.now) (disk_of c.start.new.reader) (disk_of c.replay_rest.new.reader) c.start.ensures.same c.replay_rest.ensures.same

pub returns-in_err-replay_rest-clause-same : goal.returns-in_err-replay_rest-clause-same
returns-in_err-replay_rest-clause-same g c = reads_both g.D.Disk (disk_of c.args.reader.now) (disk_of c.start.new.reader) (disk_of c.replay_rest.new.reader) c.start.ensures.same c.replay_rest.ensures.same
