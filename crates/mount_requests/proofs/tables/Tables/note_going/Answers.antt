use Rattle.std.proofs.Common.{arith, ◌∷◌, ℕ, ap, sym, ◌∙◌}
use Rattle.view_times.specs.declared.event.Event.TheVariants.{Modified}
use Rattle.mount_requests.specs.Found.{inode_of}
use Rattle.mount_requests.specs.Seen.{seen}
use Rattle.mount_requests.specs.Times.{inode_named, of_moving, of_names, with_events}
use Rattle.mount_requests.proofs.Noting.{noted_at, noted_then}
use Rattle.mount_requests.proofs.tables.Tables.note_going.Goals as goal

pub note-requires : goal.note-requires
note-requires c = let h = rw (sym c.view_at-view.ensures) at c.requires in omega (arith, h)

pub note-requires-2 : goal.note-requires-2
note-requires-2 c = let h = rw (sym c.view_at-view.ensures) at c.requires in omega (arith, h, c.note.ensures.events)

pub note_name-requires : goal.note_name-requires
note_name-requires c = let h = rw (sym c.view_at-view.ensures) at c.requires in omega (arith, h, c.note.ensures.events, c.note-2.ensures.events)

pub returns-clause-seen : goal.returns-clause-seen
returns-clause-seen c =
    let s = seen c.args.self.now in
    let node = c.args.entry.now.parent in
    let view = c.view_at-view.result in
    let from = c.inode_of-from.result in
    let to = c.inode_of-to.result in
    let moved = c.inode_named-moved.result in
    let named = inode_named s node c.args.entry.now.name in
    noted_at s (seen c.note_name.new.self) node view _ (of_moving moved from to) c.view_at-view.ensures
    (noted_then s (seen c.note.new.self) (seen c.note_name.new.self) view from Modified ((to, Modified) ∷ of_names moved) c.note.ensures.seen
    (noted_then (seen c.note.new.self) (seen c.note-2.new.self) (seen c.note_name.new.self) view to Modified (of_names moved) c.note-2.ensures.seen c.note_name.ensures.seen))
    ∙ ap (λ o. with_events node (of_moving o from to) s) c.inode_named-moved.ensures
    ∙ ap (λ (d : ℕ). with_events node (of_moving named d to) s) c.inode_of-from.ensures
    ∙ ap (λ (d : ℕ). with_events node (of_moving named (inode_of s node) d) s) c.inode_of-to.ensures
