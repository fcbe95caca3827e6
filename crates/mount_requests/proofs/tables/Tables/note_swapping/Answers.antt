use Rattle.std.proofs.Common.{arith, ◌∷◌, ℕ, ap, sym, ◌∙◌}
use Rattle.std.specs.Prelude.{Option}
use Rattle.view_times.specs.declared.event.Event.TheVariants.{Modified}
use Rattle.mount_requests.specs.Found.{inode_of}
use Rattle.mount_requests.specs.Seen.{seen}
use Rattle.mount_requests.specs.Times.{inode_named, of_both, of_swapping, with_events}
use Rattle.mount_requests.proofs.Noting.{noted_at, noted_then}
use Rattle.mount_requests.proofs.tables.Tables.note_swapping.Goals as goal

pub note-requires : goal.note-requires
note-requires c = let h = rw (sym c.view_at-view.ensures) at c.requires in omega (arith, h)

pub note-requires-2 : goal.note-requires-2
note-requires-2 c = let h = rw (sym c.view_at-view.ensures) at c.requires in omega (arith, h, c.note.ensures.events)

pub note_both-requires : goal.note_both-requires
note_both-requires c = let h = rw (sym c.view_at-view.ensures) at c.requires in omega (arith, h, c.note.ensures.events, c.note-2.ensures.events)

pub returns-clause-seen : goal.returns-clause-seen
returns-clause-seen c =
    let s = seen c.args.self.now in
    let node = c.args.first.now.parent in
    let view = c.view_at-view.result in
    let from = c.inode_of-from.result in
    let to = c.inode_of-to.result in
    let one = c.inode_named-one.result in
    let other = c.inode_named-other.result in
    let first = inode_named s node c.args.first.now.name in
    let second = inode_named s c.args.second.now.parent c.args.second.now.name in
    noted_at s (seen c.note_both.new.self) node view _ (of_swapping one other from to) c.view_at-view.ensures
    (noted_then s (seen c.note.new.self) (seen c.note_both.new.self) view from Modified ((to, Modified) ∷ of_both one other) c.note.ensures.seen
    (noted_then (seen c.note.new.self) (seen c.note-2.new.self) (seen c.note_both.new.self) view to Modified (of_both one other) c.note-2.ensures.seen c.note_both.ensures.seen))
    ∙ ap (λ (o : Option ℕ). with_events node (of_swapping o other from to) s) c.inode_named-one.ensures
    ∙ ap (λ (o : Option ℕ). with_events node (of_swapping first o from to) s) c.inode_named-other.ensures
    ∙ ap (λ (d : ℕ). with_events node (of_swapping first second d to) s) c.inode_of-from.ensures
    ∙ ap (λ (d : ℕ). with_events node (of_swapping first second (inode_of s node) d) s) c.inode_of-to.ensures
