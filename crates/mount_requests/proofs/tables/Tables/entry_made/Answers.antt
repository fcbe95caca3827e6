use Rattle.mount_requests.specs.Seen.{seen}
use Rattle.mount_requests.proofs.Knowing.{entry_of_new}
use Rattle.mount_requests.proofs.tables.Tables.entry_made.Goals as goal

pub returns-clause-entry : goal.returns-clause-entry
returns-clause-entry c =
    (entry_of_new (seen c.args.self.now) (seen c.note_new.new.self) (seen c.entry-2.new.self) c.args.spot _ c.args.stat.now _ c.note_new.ensures.seen c.entry.ensures c.entry-2.ensures.entry c.entry-2.ensures.seen).0

pub returns-clause-seen : goal.returns-clause-seen
returns-clause-seen c =
    (entry_of_new (seen c.args.self.now) (seen c.note_new.new.self) (seen c.entry-2.new.self) c.args.spot _ c.args.stat.now _ c.note_new.ensures.seen c.entry.ensures c.entry-2.ensures.entry c.entry-2.ensures.seen).1
