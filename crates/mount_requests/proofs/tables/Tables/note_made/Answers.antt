use Rattle.std.proofs.Common.{arith, [], ◌∷◌, ℕ, ap, sym, ◌∙◌}
use Rattle.view_times.specs.declared.event.Event.TheVariants.{Made, Modified}
use Rattle.mount_requests.specs.Seen.{seen}
use Rattle.mount_requests.specs.Times.{of_making, with_events}
use Rattle.mount_requests.proofs.Noting.{noted_at, noted_then}
use Rattle.mount_requests.proofs.tables.Tables.note_made.Goals as goal

pub note-requires : goal.note-requires
note-requires c = let h = rw (sym c.view_at-view.ensures) at c.requires in omega (arith, h)

pub note-requires-2 : goal.note-requires-2
note-requires-2 c = let h = rw (sym c.view_at-view.ensures) at c.requires in omega (arith, h, c.note.ensures.events)

pub returns-clause-seen : goal.returns-clause-seen
returns-clause-seen c =
    let s = seen c.args.self.now in
    noted_at s (seen c.note-2.new.self) c.args.node c.view_at-view.result _ (of_making c.args.inode c.inode_of-directory.result) c.view_at-view.ensures
    (noted_then s (seen c.note.new.self) (seen c.note-2.new.self) c.view_at-view.result c.args.inode Made ((c.inode_of-directory.result, Modified) ∷ []) c.note.ensures.seen c.note-2.ensures.seen)
    ∙ ap (λ (d : ℕ). with_events c.args.node (of_making c.args.inode d) s) c.inode_of-directory.ensures
