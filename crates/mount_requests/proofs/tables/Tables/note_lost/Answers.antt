use Rattle.std.proofs.Common.{arith, ℕ, ap, sym, ◌∙◌}
use Rattle.view_times.specs.declared.event.Event.TheVariants.{Modified}
use Rattle.mount_requests.specs.Seen.{seen}
use Rattle.mount_requests.specs.Times.{inode_named, of_names, of_removing, with_events}
use Rattle.mount_requests.proofs.Noting.{noted_at, noted_then}
use Rattle.mount_requests.proofs.tables.Tables.note_lost.Goals as goal

pub note-requires : goal.note-requires
note-requires c = let h = rw (sym c.view_at-view.ensures) at c.requires in omega (arith, h)

pub note_name-requires : goal.note_name-requires
note_name-requires c = let h = rw (sym c.view_at-view.ensures) at c.requires in omega (arith, h, c.note.ensures.events)

pub returns-clause-seen : goal.returns-clause-seen
returns-clause-seen c =
    let s = seen c.args.self.now in
    let node = c.args.entry.now.parent in
    noted_at s (seen c.note_name.new.self) node c.view_at-view.result _ (of_removing c.inode_named-lost.result c.inode_of-directory.result) c.view_at-view.ensures
    (noted_then s (seen c.note.new.self) (seen c.note_name.new.self) c.view_at-view.result c.inode_of-directory.result Modified (of_names c.inode_named-lost.result) c.note.ensures.seen c.note_name.ensures.seen)
    ∙ ap (λ o. with_events node (of_removing o c.inode_of-directory.result) s) c.inode_named-lost.ensures
    ∙ ap (λ (d : ℕ). with_events node (of_removing (inode_named s node c.args.entry.now.name) d) s) c.inode_of-directory.ensures
