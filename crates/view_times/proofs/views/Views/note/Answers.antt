use Rattle.std.proofs.Common.{◌≡◌, ◌+◌, ◌≤◌, ℕ, ◌==◌, ◌&&◌, cond, Some, arith, nat_cmp, sym, ap, subst, ◌∙◌}
use Rattle.std.specs.Option.{is_some}
use Rattle.model.specs.FiniteMap.{FinMap, get}
use Rattle.view_times.specs.Kept.{note_at, notes_in, room_by}
use Rattle.view_times.specs.Noted.{behind}
use Rattle.view_times.specs.Rows.{Rows, rows_in}
use Rattle.view_times.specs.declared.noted.Notes.{Notes}
use Rattle.view_times.proofs.Tables.{one_noted, room_falls}
use Rattle.view_times.proofs.Written.{found, written}
use Rattle.view_times.proofs.views.Views.note.Goals as goal

abbrev Tables : Type 0
Tables = FinMap nat_cmp (Rows Notes)

pub unreachable-requires : goal.unreachable-requires
unreachable-requires c =
    let none : room_by (get c.args.self.now c.args.view) ≡ 0 = ap (λ (m : Tables). room_by (get m c.args.view)) (sym c.self.view_is) ∙ ap room_by (found c.self.inside.tables.entries c.args.view ∙ sym c.in-None.ensures.value) in
    omega (arith, none, c.requires)

pub note_in_table-requires : goal.note_in_table-requires
note_in_table-requires c =
    let room : room_by (get c.args.self.now c.args.view) ≡ c.in-Some.table.now.room = ap (λ (m : Tables). room_by (get m c.args.view)) (sym c.self.view_is) ∙ ap room_by (found c.self.inside.tables.entries c.args.view ∙ sym c.in-Some.ensures.value) in
    omega (arith, room, c.requires)

abbrev old : goal.After-self-in-Some-1 → Tables
old c = rows_in c.self.inside.tables

abbrev new : goal.After-self-in-Some-1 → Tables
new c = rows_in (c.get_mut.follows.lender c.note_in_table.new.table)

there : (c : goal.After-self-in-Some-1) → get (old c) c.args.view ≡ Some c.in-Some.table.now
there c = found c.self.inside.tables.entries c.args.view ∙ sym c.in-Some.ensures.value

changed : (c : goal.After-self-in-Some-1) (v : ℕ) → get (new c) v ≡ cond (c.args.view == v) (Some c.note_in_table.new.table) (get (old c) v)
changed c = written c.args.view c.note_in_table.new.table c.self.inside.tables.entries (c.get_mut.follows.lender c.note_in_table.new.table).entries
    ((c.get_mut.follows.holds c.note_in_table.new.table).3 (ap is_some (sym c.in-Some.ensures.value))).0

pub returns-clause-notes : goal.returns-clause-notes
returns-clause-notes c = λ v q.
    subst (λ (m : Tables). note_at (new c) v q ≡ cond (c.args.view == v && c.args.inode == q) (Some (behind c.args.notes (notes_in m c.args.view c.args.inode))) (note_at m v q)) c.self.view_is
    (one_noted (old c) (new c) c.args.view c.args.inode c.args.notes c.in-Some.table.now c.note_in_table.new.table (there c) (changed c) c.note_in_table.ensures.rows v q)

pub returns-clause-room : goal.returns-clause-room
returns-clause-room c = λ v.
    subst (λ (m : Tables). room_by (get m v) ≤ room_by (get (new c) v) + 1) c.self.view_is
    (room_falls (old c) (new c) c.args.view (Some c.in-Some.table.now) (Some c.note_in_table.new.table) (there c) (changed c) c.note_in_table.ensures.room v)
