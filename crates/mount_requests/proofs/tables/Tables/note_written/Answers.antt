use Rattle.std.proofs.Common.{arith, sym}
use Rattle.mount_requests.specs.Seen.{seen}
use Rattle.mount_requests.specs.Times.{of_writing}
use Rattle.mount_requests.proofs.Noting.{noted_at}
use Rattle.mount_requests.proofs.tables.Tables.note_written.Goals as goal

pub note-requires : goal.note-requires
note-requires c = let h = rw (sym c.view_at-view.ensures) at c.requires in omega (arith, h)

pub returns-clause-seen : goal.returns-clause-seen
returns-clause-seen c = noted_at (seen c.args.self.now) (seen c.note.new.self) c.args.node c.view_at-view.result _ (of_writing c.args.inode) c.view_at-view.ensures c.note.ensures.seen
