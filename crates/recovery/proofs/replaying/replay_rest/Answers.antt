use Rattle.commit_log.specs.Reader.{disk_of}
use Rattle.recovery.proofs.Going.{goes_then, reads_both, reads_same, stood_last, stood_more}
use Rattle.recovery.proofs.replaying.replay_rest.Goals as goal

pub loop-init : goal.loop-init
loop-init g c = record {
  kept = c.requires;
  same = reads_same g.D.Disk (disk_of c.args.reader.now) c.args.reader.now.usable;
  goes = λ clean payloads goes. goes;
}

pub returns-in_err-ended-clause-same : goal.returns-in_err-ended-clause-same
returns-in_err-ended-clause-same g c = reads_both g.D.Disk (disk_of c.args.reader.now) (disk_of c.loop.reader) (disk_of c.replay_next.new.reader) c.loop.invariant.same c.replay_next.ensures.same

pub returns-then-ended-clause-same : goal.returns-then-ended-clause-same
returns-then-ended-clause-same g c = reads_both g.D.Disk (disk_of c.args.reader.now) (disk_of c.loop.reader) (disk_of c.replay_next.new.reader) c.loop.invariant.same c.replay_next.ensures.same

pub returns-then-ended-clause-replayed : goal.returns-then-ended-clause-replayed
returns-then-ended-clause-replayed g c clean payloads goes =
    let v = g.M.Machine.shown c.replay_next.new.machine in
    stood_last g.D.Disk c.replay_next.new.reader v payloads c.in_ok-ended.ended c.if-ended.true
    (goes_then g.D.Disk c.args.reader.now c.loop.reader c.replay_next.new.reader (g.M.Machine.shown c.args.machine.now).log (g.M.Machine.shown c.loop.machine).log v c.in_ok-ended.ended c.replay_next.ensures.same c.loop.invariant.goes c.in_ok-ended.ensures.goes clean payloads goes)

pub loop-preserved : goal.loop-preserved
loop-preserved g c =
    let v = g.M.Machine.shown c.replay_next.new.machine in
    record {
      kept = c.replay_next.ensures.kept;
      same = reads_both g.D.Disk (disk_of c.args.reader.now) (disk_of c.loop.reader) (disk_of c.replay_next.new.reader) c.loop.invariant.same c.replay_next.ensures.same;
      goes = λ clean payloads goes. stood_more g.D.Disk c.replay_next.new.reader v payloads c.in_ok-ended.ended c.if-ended.false
          (goes_then g.D.Disk c.args.reader.now c.loop.reader c.replay_next.new.reader (g.M.Machine.shown c.args.machine.now).log (g.M.Machine.shown c.loop.machine).log v c.in_ok-ended.ended c.replay_next.ensures.same c.loop.invariant.goes c.in_ok-ended.ensures.goes clean payloads goes);
    }
