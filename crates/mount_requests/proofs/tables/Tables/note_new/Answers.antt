use Rattle.std.proofs.Common.{ap, ◌∙◌}
use Rattle.mount_requests.specs.Found.{inode_of}
use Rattle.mount_requests.specs.Seen.{Seen}
use Rattle.mount_requests.specs.Times.{of_making, with_events}
use Rattle.mount_requests.proofs.tables.Tables.note_new.Goals as goal

pub returns-clause-seen : goal.returns-clause-seen
returns-clause-seen c =
    c.note_made.ensures.seen ∙ ap (λ (v : Seen). with_events c.args.node (of_making c.args.inode (inode_of v c.args.node)) v) c.note_birth.ensures.seen
