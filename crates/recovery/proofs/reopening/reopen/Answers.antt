use Rattle.commit_log.specs.Reader.{disk_of, key_of}
use Rattle.recovery.proofs.Going.{reads_both}
use Rattle.recovery.proofs.reopening.reopen.Goals as goal

pub returns-clause-reopened : goal.returns-clause-reopened
returns-clause-reopened g c =
    let old = c.in_ok-reader.reader in
    let new = c.replay.new.reader in
    record {
      key = key_of old;
      reader = new;
      same = reads_both g.D.Disk c.args.disk (disk_of old) (disk_of new) c.in_ok-reader.ensures.same c.replay.ensures.same;
      header = λ clean. c.in_ok-reader.ensures.header (c.replay.ensures.same.clean clean);
      replayed = λ clean payloads reads. c.in_ok-replayed.ensures.replayed clean payloads (c.in_ok-reader.ensures.reads (c.replay.ensures.same.clean clean) payloads reads);
      stands = c.in_ok-log.ensures;
    }
