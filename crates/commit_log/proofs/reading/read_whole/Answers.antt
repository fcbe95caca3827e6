use Rattle.std.proofs.Common.{length, rules}
use Rattle.commit_log.proofs.Found.{found_in}
use Rattle.commit_log.proofs.reading.read_whole.Goals as goal

pub returns-clause-found : goal.returns-clause-found
returns-clause-found g c clean =
    found_in c.args.key (g.D.Disk.seen c.args.disk.now) c.args.place c.read_bytes.new.bytes (length c.args.frame.now) c.kept_in.result (c.in_ok-read_bytes.ensures.read clean) (search rules) (search rules) c.kept_in.ensures.good c.kept_in.ensures.none
